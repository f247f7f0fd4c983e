-- `Device::measure` meets its contract: the parts of the answer, put together by the axis.
use Rattle.std.proofs.Common.{◌≡◌, refl, Bool, true, false, cond, not, ◌&&◌, ℕ, ℤ, [], ◌∷◌, eqb, Option, Some, None, w32, arith}
use Rattle.angle.specs.OfAxis.{of_axis}
use Rattle.laws.proofs.Signed.{ok}
use Rattle.answers.specs.Answers.{answering}
use Rattle.answers.specs.declared.Answer.{Answer}
use Rattle.readings.specs.declared.Readings.{Readings}
use Rattle.readings.specs.After.{after}
use Rattle.readings.specs.Alarm.{alarm_frames, alarm_of}
use Rattle.readings.specs.Faults.{fault_of, listed_of}
use Rattle.rules.specs.declared.errors.ErrorList.{ErrorList}
use Rattle.rules.specs.declared.objects.Axis.{Axis}
use Rattle.rules.specs.declared.objects.Axis.TheVariants.{X, Y}
use Rattle.rules.specs.Errors.{entered, register}
use Rattle.rules.specs.Frames.{emergency_frame}
use Rattle.rules.specs.Readings.{on_reading, fails}
use Rattle.device.specs.declared.Device.{Device}
use Rattle.device.specs.declared.Stepped.{Stepped}
use Rattle.device.proofs.Beside.{apart}
use Rattle.device.specs.Answers.{stepped_of}
use Rattle.device.specs.Seen.{alone}
use Rattle.device.proofs.Device.measure.Goals as goal

-- the list and the frames, by whether the reading is a fault
listed_when : (b : Bool) (code : ℕ) (l : ErrorList) → listed_of (cond b (Some code) None) l ≡ cond b (entered code l) l
listed_when true code l = refl
listed_when false code l = refl

sent_when : (b : Bool) (node code before now : ℕ)
    → alarm_frames node (cond b (Some code) None) before now
    ≡ cond b (emergency_frame node code now ∷ []) (cond (not (eqb before 0) && eqb now 0) (emergency_frame node 0 now ∷ []) [])
sent_when true node code before now = refl
sent_when false node code before now = refl

-- by the axis: the parts of the answer, put together
together : (d : Device) (a : Axis) (m : ℤ) (new : Readings) (before now : ℕ) (fault : Option ℕ) (list : ErrorList) (sent : Answer)
    → new ≡ after a m (record { x = d.x; y = d.y })
    → fault ≡ fault_of a m (of_axis a d.x d.y)
    → list ≡ listed_of fault d.errors
    → before ≡ register d.saves.spoiled d.x.state d.y.state
    → now ≡ register d.saves.spoiled new.x.state new.y.state
    → sent ≡ answering 0 (alarm_of d.node d.network fault before now)
    → ◌≡◌ {A = Stepped} (record { device = record d { errors = list; x = new.x; y = new.y }; answer = sent }) (stepped_of (on_reading a m (alone d)))
unfolding on_reading
together d X m new before now fault list sent e₁ e₂ e₃ e₄ e₅ e₆ =
    rw (e₆, e₅, e₄, e₃, e₂, e₁, listed_when (fails m d.x) 0xFF01 d.errors, sent_when (fails m d.x) d.node 0xFF01 _ _)
together d Y m new before now fault list sent e₁ e₂ e₃ e₄ e₅ e₆ =
    rw (e₆, e₅, e₄, e₃, e₂, e₁, listed_when (fails m d.y) 0xFF02 d.errors, sent_when (fails m d.y) d.node 0xFF02 _ _)

pub returns : goal.returns
returns c =
    let read = ok w32 c.args.m (omega arith) in
    apart (on_reading c.args.axis c.args.m (alone c.args.self.now)) (together _ _ _ _ _ _ _ _ _
    (simp read at c.after-new.ensures)
    (simp read at c.fault-fault.ensures)
    c.listed-self.ensures
    c.register.ensures
    c.register-2.ensures
    c.alarm.ensures)

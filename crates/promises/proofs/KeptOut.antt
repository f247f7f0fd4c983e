-- Each kind of sensor differs from the rules somewhere.
use mathlib.Core.Path.{◌≡◌, refl, ap, sym, ◌∙◌}
use mathlib.Core.Bool.{false}
use mathlib.Core.List.{List, [], ◌∷◌}
use Prim.Native.Nat.{ℕ, suc}
use native.Mathlib.Omega.{arith}
use lib.ListN.{length, get_or}
use Rattle.interleaving.specs.Runs.{Sensor}
use Rattle.rules.proofs.Accepted.{tick_accepted}
use Rattle.rules.proofs.Frames.{request-received}
use Rattle.rules.proofs.Refusals.{then-its-kind}
use Rattle.rules.proofs.Stays.{event-stays, start-stays}
use Rattle.rules.specs.declared.events.Event.{Event}
use Rattle.rules.specs.declared.events.Event.TheVariants.{Received, Tick}
use Rattle.rules.specs.declared.events.Frame.{Frame}
use Rattle.rules.specs.declared.objects.Channel.{Channel}
use Rattle.rules.specs.declared.parts.Identity.{Identity}
use Rattle.rules.specs.declared.requests.Caller.TheVariants.{Client}
use Rattle.rules.specs.Events.{answered, on_request, on_frame, on_event, request, NotRefused, event}
use Rattle.rules.specs.Frames.{boot_up_frame}
use Rattle.rules.specs.Journal.{length_ok, blank_blocks}
use Rattle.rules.specs.Network.{on_network, on_network_command, start}
use Rattle.rules.specs.Numbers.{two_at}
use Rattle.rules.specs.Objects.{find, object_at}
use Rattle.rules.specs.PowerOn.{power_on}
use Rattle.rules.specs.Replies.{reply}
use Rattle.rules.specs.Requests.{command_of, command, index_of, subindex_of}
use Rattle.rules.specs.Results.{Result}
use Rattle.rules.specs.Service as service
use Rattle.rules.specs.State.{State, last_set}
use Rattle.promises.specs.KeptOut.{Meets, KeptOut, Serves, replies, read2100, filled_blocks, RefusesAll, AnswersAlike, AnswersEach, ChangesNothing, WorksOnce, Invents2100, Constant}

abbrev state : Result → State
state r = r.state

abbrev sent : Result → List Frame
sent r = r.sent

-- NMT commands, to every node
abbrev network : Event
network = Received (record { identifier = 0; remote = false })

abbrev to_all : ℕ → List ℕ
to_all command = command ∷ 0 ∷ []

-- what is not refused goes by its kind
module _ (u : State) (fine : NotRefused u) where
  by_kind : (e : Event) (bytes : List ℕ) (n : ℕ) → event e bytes n u ≡ on_event e bytes n u
  by_kind e bytes n = then-its-kind e bytes n u fine.0 fine.1

  starts : (event network (to_all 0x01) 2 u).state.network ≡ 5
  unfolding on_frame on_network on_network_command
  starts = ap (λ (r : Result). r.state.network) (by_kind network (to_all 0x01) 2)

  boots : (event network (to_all 0x82) 2 u).sent ≡ boot_up_frame (last_set u) ∷ []
  unfolding on_frame on_network on_network_command
  boots = ap sent (by_kind network (to_all 0x82) 2)

-- node 1, powered on with one blank block
abbrev no_identity : Identity
no_identity = record { vendor = 0; product = 0; revision = 0; serial = 0 }

abbrev device : State
device = (power_on 1 no_identity (blank_blocks 1)).state

accepted : (power_on 1 no_identity (blank_blocks 1)).refusal ≡ 0
unfolding power_on length_ok blank_blocks start
accepted = refl

pre_operational_lem : device.network ≡ 127
unfolding power_on length_ok blank_blocks start
pre_operational_lem = refl

fine : NotRefused device
fine = start-stays 1 no_identity (blank_blocks 1) accepted

pub refuses_all : KeptOut RefusesAll
refuses_all sensor refuses meets =
    refuses (Tick 0) [] 0 device (ap (λ (r : Result). r.refusal) (meets (Tick 0) [] 0 device ∙ by_kind device fine (Tick 0) [] 0) ∙ (tick_accepted device 0).0)

pub changes-nothing : KeptOut ChangesNothing
changes-nothing sensor still meets =
    let same = ap state (sym (meets network (to_all 0x01) 2 device)) ∙ still network (to_all 0x01) 2 device in
    let differ : ◌≡◌ {A = ℕ} 5 127 = sym (starts device fine) ∙ ap (λ (u : State). u.network) same ∙ pre_operational_lem in
    omega arith

pub constant_sensor : KeptOut Constant
constant_sensor sensor (number, frames, same) = changes-nothing sensor (λ e bytes n u. ap (λ (s : Sensor). (s e bytes n u).state) same)

-- a frame is not none
some : (f : Frame) → ¬ ([] ≡ f ∷ [])
some f e = let none : ◌≡◌ {A = ℕ} 0 1 = ap length e in omega arith

pub works_once : KeptOut WorksOnce
works_once sensor (node, identity, j, on, first, bytes, n, dead) meets =
    let start = (power_on node identity j).state in
    let u = (event first bytes n start).state in
    let same : (sensor first bytes n start).state ≡ u = ap state (meets first bytes n start) in
    let silent = rw same at (dead network (to_all 0x82) 2).1 in
    some (boot_up_frame (last_set u))
    (sym silent ∙ ap sent (meets network (to_all 0x82) 2 u) ∙ boots u (event-stays start (start-stays node identity j on) first bytes n))

-- reads of 1000:0 and of 1018:0 are answered 43h and 4Fh first
abbrev first_byte : List Frame → ℕ
first_byte [] = 0
first_byte (f ∷ fs) = get_or f.bytes 0 0

abbrev read1000 : List ℕ
read1000 = 0x40 ∷ 0x00 ∷ 0x10 ∷ 0 ∷ 0 ∷ 0 ∷ 0 ∷ 0 ∷ []

abbrev read1018 : List ℕ
read1018 = 0x40 ∷ 0x18 ∷ 0x10 ∷ 0 ∷ 0 ∷ 0 ∷ 0 ∷ 0 ∷ []

-- "80h ends the transfer, no reply"
abbrev ending : List ℕ
ending = 0x80 ∷ 0 ∷ 0 ∷ 0 ∷ 0 ∷ 0 ∷ 0 ∷ 0 ∷ []

-- requests on any channel, beside any record that serves
module _ (c : Channel) (u : State) (serves : Serves u) where
  on_channel_lem : (bytes : List ℕ) → replies event c bytes u ≡ (answered (Client c) (service.on_command c bytes (command bytes) (object_at (index_of bytes) (subindex_of bytes)) u) u).sent
  unfolding on_request
  on_channel_lem bytes = ap sent (request-received false bytes 8 u serves.0.0 serves.0.1 (Client c)) ∙ rw serves.1

  first-bytes : (first_byte (replies event c read1000 u) ≡ 0x43) × (first_byte (replies event c read1018 u) ≡ 0x4F)
  unfolding command_of find reply two_at
  first-bytes = (ap first_byte (on_channel_lem read1000), ap first_byte (on_channel_lem read1018))

  no-reply : replies event c ending u ≡ []
  unfolding command_of
  no-reply = on_channel_lem ending

  filled-read : replies event c read2100 u ≡ filled_blocks c u ∷ []
  unfolding command_of find reply two_at
  filled-read = on_channel_lem read2100

-- what is answered, and with one frame if at all, begins as that frame does
begins : (l : List Frame) (f : Frame) (n : ℕ) → first_byte l ≡ suc n → (¬ (l ≡ []) → l ≡ f ∷ []) → suc n ≡ first_byte (f ∷ [])
begins l f n told one = sym told ∙ ap first_byte (one (λ silent. let zero : suc n ≡ 0 = sym told ∙ ap first_byte silent in omega arith))

-- a sensor that meets demand 2 replies as the rules do
as_told : (sensor : Sensor) → Meets sensor → (c : Channel) (bytes : List ℕ) (u : State) → replies sensor c bytes u ≡ replies event c bytes u
as_told sensor meets c bytes u = ap sent (meets (request c u) bytes 8 u)

pub answers-alike : KeptOut AnswersAlike
answers-alike sensor (c, u, serves, f, one) meets =
    let told = first-bytes c u serves in
    let differ : ◌≡◌ {A = ℕ} 0x43 0x4F =
    begins _ f 0x42 (ap first_byte (as_told sensor meets c read1000 u) ∙ told.0) (one read1000 refl)
    ∙ sym (begins _ f 0x4E (ap first_byte (as_told sensor meets c read1018 u) ∙ told.1) (one read1018 refl)) in
    omega arith

pub answers-each : KeptOut AnswersEach
answers-each sensor (c, u, serves, each) meets =
    let (f, one) = each ending refl in
    some f (sym (as_told sensor meets c ending u ∙ no-reply c u serves) ∙ one)

pub invents_2100 : KeptOut Invents2100
invents_2100 sensor (c, u, serves, invented) meets = invented (as_told sensor meets c read2100 u ∙ filled-read c u serves)

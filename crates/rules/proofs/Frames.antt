-- A frame on a caller's identifier, a channel's or LSS's, is that caller's request, in any state that is not refused.
use mathlib.Core.Path.{◌≡◌, refl}
use mathlib.Core.Bool.{Bool, true, cond}
use mathlib.Core.List.{List}
use Prim.Native.Nat.{ℕ, ◌+◌, ◌≤◌}
use native.Mathlib.Omega.{arith}
use borrow.Author.Tests.{eq-eqb, ne_eqb, le-leb}
use lib.Dec.{leb}
use Rattle.rules.proofs.InRange.{parts}
use Rattle.rules.proofs.Numbers.{to-most}
use Rattle.rules.specs.declared.events.Event.TheVariants.{Received}
use Rattle.rules.specs.declared.objects.Channel.TheVariants.{One, Two}
use Rattle.rules.specs.declared.requests.Caller.{Caller}
use Rattle.rules.specs.declared.requests.Caller.TheVariants.{Client, Master}
use Rattle.rules.specs.Events.{on_request, on_frame, journal_fits, event}
use Rattle.rules.specs.Frames.{request_at}
use Rattle.rules.specs.Ranges.{in_range}
use Rattle.rules.specs.Results.{Result, ignored, refused}
use Rattle.rules.specs.State.{State}

module _ (remote : Bool) (bytes : List ℕ) (n : ℕ) (u : State) (range : in_range u ≡ true) (fits : journal_fits u ≡ true) where
  abbrev as_request : Caller → Result
  as_request c = cond (leb n 8) (cond remote (ignored u) (on_request c bytes n u)) (refused 2 u)

  node-most : u.node ≤ 47
  node-most = to-most 1 47 u.node (parts u range).node

  pub request-received : (c : Caller) → event (Received (record { identifier = request_at c u.node; remote = remote })) bytes n u ≡ as_request c
  unfolding event on_frame
  request-received (Client One) =
      let small = node-most in
      simp (
        range,
        fits,
        le-leb (0x600 + u.node) 0x7FF (omega arith),
        ne_eqb (0x600 + u.node) 0 (omega arith),
        ne_eqb (0x600 + u.node) 0x80 (omega arith),
        eq-eqb (0x600 + u.node) (0x600 + u.node) refl,
      )
  request-received (Client Two) =
      let small = node-most in
      simp (
        range,
        fits,
        le-leb (0x680 + u.node) 0x7FF (omega arith),
        ne_eqb (0x680 + u.node) 0 (omega arith),
        ne_eqb (0x680 + u.node) 0x80 (omega arith),
        ne_eqb (0x680 + u.node) (0x600 + u.node) (omega arith),
        eq-eqb (0x680 + u.node) (0x680 + u.node) refl,
      )
  request-received Master =
      let small = node-most in
      simp (range, fits, ne_eqb 0x7E5 (0x600 + u.node) (omega arith), ne_eqb 0x7E5 (0x680 + u.node) (omega arith))

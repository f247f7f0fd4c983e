-- `object_at` meets its contract: an arm knows its index, and the last that it is none of the table's.
use Rattle.std.proofs.Common.{arith, ℕ, ◌≢◌, ◌∙◌, ne_eqb}
use Rattle.rules.specs.declared.objects.Axis.TheVariants.{X, Y}
use Rattle.rules.specs.declared.objects.Channel.TheVariants.{One, Two}
use Rattle.rules.specs.Objects.{find}
use Rattle.objects.proofs.Lone.{Lone, lone_at, server_at_lem, saves-counted, loads-counted}
use Rattle.objects.proofs.Lone.Lone.{device_type, error_register, sync_identifier, name, emergency_identifier, heartbeat, filled, blocks, resolution, angle, operating, preset, offset, differential}
use Rattle.objects.proofs.object_at.Goals as goal
use Rattle.objects.proofs.object_at.Goals.{in-4096, in-4097, in-4101, in-4104, in-4116, in-4119, in-8448, in-8449, in-24576, in-24592, in-24593, in-24594, in-24595, in-24596, in-24608, in-24609, in-24610, in-24611, in-24612}

pub returns-in-4112 : goal.returns-in-4112
returns-in-4112 c = rw c.in-4112.is (c.counted.ensures ∙ saves-counted _)

pub returns-in-4113 : goal.returns-in-4113
returns-in-4113 c = rw c.in-4113.is (c.counted-in-4113.ensures ∙ loads-counted _)

pub returns-in-4608 : goal.returns-in-4608
returns-in-4608 c = rw c.in-4608.is (c.server.ensures ∙ server_at_lem One _)

pub returns-in-4609 : goal.returns-in-4609
returns-in-4609 c = rw c.in-4609.is (c.server-in-4609.ensures ∙ server_at_lem Two _)

pub returns-in_default : goal.returns-in_default
unfolding find
returns-in_default c =
    let other = λ (at : ℕ) (h : c.args.index ≢ at). ne_eqb c.args.index at h in
    simp (other 0x1000 (omega arith), other 0x1001 (omega arith), other 0x1003 (omega arith), other 0x1005 (omega arith), other 0x1008 (omega arith), other 0x1010 (omega arith), other 0x1011 (omega arith), other 0x1014 (omega arith), other 0x1017 (omega arith), other 0x1018 (omega arith), other 0x1200 (omega arith), other 0x1201 (omega arith), other 0x1800 (omega arith), other 0x1A00 (omega arith), other 0x2100 (omega arith), other 0x2101 (omega arith), other 0x6000 (omega arith), other 0x6010 (omega arith), other 0x6011 (omega arith), other 0x6012 (omega arith), other 0x6013 (omega arith), other 0x6014 (omega arith), other 0x6020 (omega arith), other 0x6021 (omega arith), other 0x6022 (omega arith), other 0x6023 (omega arith), other 0x6024 (omega arith))

pub returns : goal.returns
returns c =
    let lone : Lone c.args.index c.match-index.o =
    elim c.match-index.branch [
      | in-4096 w ↦ rw (w.in-4096.is, w.o-is) device_type
      | in-4097 w ↦ rw (w.in-4097.is, w.o-is) error_register
      | in-4101 w ↦ rw (w.in-4101.is, w.o-is) sync_identifier
      | in-4104 w ↦ rw (w.in-4104.is, w.o-is) name
      | in-4116 w ↦ rw (w.in-4116.is, w.o-is) emergency_identifier
      | in-4119 w ↦ rw (w.in-4119.is, w.o-is) heartbeat
      | in-8448 w ↦ rw (w.in-8448.is, w.o-is) filled
      | in-8449 w ↦ rw (w.in-8449.is, w.o-is) blocks
      | in-24576 w ↦ rw (w.in-24576.is, w.o-is) resolution
      | in-24592 w ↦ rw (w.in-24592.is, w.o-is) (angle X)
      | in-24593 w ↦ rw (w.in-24593.is, w.o-is) (operating X)
      | in-24594 w ↦ rw (w.in-24594.is, w.o-is) (preset X)
      | in-24595 w ↦ rw (w.in-24595.is, w.o-is) (offset X)
      | in-24596 w ↦ rw (w.in-24596.is, w.o-is) (differential X)
      | in-24608 w ↦ rw (w.in-24608.is, w.o-is) (angle Y)
      | in-24609 w ↦ rw (w.in-24609.is, w.o-is) (operating Y)
      | in-24610 w ↦ rw (w.in-24610.is, w.o-is) (preset Y)
      | in-24611 w ↦ rw (w.in-24611.is, w.o-is) (offset Y)
      | in-24612 w ↦ rw (w.in-24612.is, w.o-is) (differential Y)
    ] in
    c.only.ensures ∙ lone_at lone c.args.subindex

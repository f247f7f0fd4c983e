-- `Device::axes` meets its contract: of a record in range each reading is inside, and the resolution is one of the four.
use Rattle.rules.proofs.InRange.{parts}
use Rattle.rules.proofs.Ranges.{axis-inside}
use Rattle.rules.proofs.Table.{setting_in}
use Rattle.rules.specs.declared.objects.Setting.TheVariants.{Resolution}
use Rattle.device.proofs.Device.axes.Goals as goal

pub invariant_of-result : goal.invariant_of-result
invariant_of-result c =
    let d = c.args.self.now in
    let p = parts _ c.requires in
    record { x_inside = axis-inside d.x p.x; y_inside = axis-inside d.y p.y; within = setting_in d.running p.running Resolution }

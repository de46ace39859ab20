-- `slots::slots_in` meets its contract: the masks hold the nodes passed. Assumes nothing.
use Rattle.std.proofs.Common.{refl}
use Rattle.slots.proofs.SlotLaws.{taken_none, taken_next}
use Rattle.slots.proofs.TableLaws.{empty_at}
use Rattle.slots.proofs.slots_in.Goals as goal

pub loop-x-init : goal.loop-x-init
loop-x-init c = taken_none _ _ refl (empty_at 8)

pub loop-x-preserved : goal.loop-x-preserved
loop-x-preserved c =
    let m = c.requires.by_index c.loop-x.x c.loop-x-test.true in
    taken_next _ _ _ _ _ c.loop-x.invariant m c.node_in-n.result c.node_in-n.ensures _ _ _ _ c.has_slot.ensures c.has_channel.ensures c.with_slot.ensures c.with_channel-channels.ensures

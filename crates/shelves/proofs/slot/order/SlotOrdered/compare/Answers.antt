use Rattle.std.specs.Cmp.{on_total}
use Rattle.text.proofs.TotalOrders.{byte_order_total}
use Rattle.table.proofs.Totals.{told}
use Rattle.shelves.specs.Slots.{slot_text}
use Rattle.shelves.proofs.slot.order.SlotOrdered.compare.Goals as goal

pub returns : goal.returns
returns c = told (on_total slot_text byte_order_total) c.args.self.now c.args.other.now c.cmp.result c.cmp.ensures

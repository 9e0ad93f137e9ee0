use Rattle.text.proofs.Order.{before-alone, before_trans, before_either}
use Rattle.text.proofs.laws.byte_order_is_total.Goals as goal

pub returns : goal.returns
returns c = record { alone = before-alone; chain = before_trans; either = before_either }

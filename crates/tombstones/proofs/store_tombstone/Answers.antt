-- Each way of storing writes what the model says of it.
use Rattle.std.proofs.Common.{sym, ◌∙◌, rules, arith}
use Rattle.octets.proofs.Numbers.{bytes_of}
use Rattle.tombstones.proofs.StoreLaws.{stores_nothing, stores_new}
use Rattle.tombstones.proofs.store_tombstone.Goals as goal

pub returns-in-Nothing : goal.returns-in-Nothing
returns-in-Nothing c = ((λ s r k. stores_nothing _ _ _ _ _ _ _ s r (sym c.in-Nothing.is ∙ k)), omega arith)

pub returns-in-New : goal.returns-in-New
returns-in-New c = (
  (λ s r k. stores_new _ _ _ _ _ _ _ s r (sym c.in-New.is ∙ k) c.requires.1 c.tombstone-row.ensures (bytes_of _ (λ i. search rules)) (bytes_of _ (λ i. search rules)) c.make_room-listed.ensures c.push-device.ensures c.put_courier.ensures),
  omega arith,
)

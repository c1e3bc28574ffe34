-- `ask`: by the record that the body is. Assumes nothing.
use Rattle.std.proofs.Common.{rules, refl, sym, Some}
use Rattle.wire.specs.Log as log
use Rattle.wire.specs.declared.Body.TheVariants as body
use Rattle.drill_calls.specs.Asking.{told_with, done_said, tables_in}
use Rattle.drill_calls.proofs.AskLaws.{asked, mapped, asks_of}
use Rattle.drill_calls.proofs.StepLaws.{clock_told, contact_told, setting_told}
use Rattle.drill_calls.proofs.DrillLaws.{asks_read, asks_wrong, on_none}
use Rattle.drill_calls.proofs.ask.Goals as goal

pub returns-in_default : goal.returns-in_default
returns-in_default c = asks_wrong c.read_body.ensures c.in_default.is _ _ refl

pub returns-in-Clock : goal.returns-in-Clock
returns-in-Clock c =
    asks_read c.read_body.ensures (body.Clock _) c.in-Some.is c.in-Clock.is _
    (asked (told_with done_said) (log.clock _) refl (λ s. clock_told s _) (on_none _ (tables_in c.args.device.now c.args.exchange.now c.args.tables.now) _ _ c.clock.ensures) refl)

pub returns-in-Contact : goal.returns-in-Contact
returns-in-Contact c =
    asks_read c.read_body.ensures (body.Contact _ _) c.in-Some.is c.in-Contact.is _
    (asked (told_with done_said) (log.contact _ _) refl (λ s. contact_told s _ _) (on_none _ (tables_in c.args.device.now c.args.exchange.now c.args.tables.now) _ _ c.contact.ensures) (mapped done_said c.contact.result (λ a s h. search rules) c.map.ensures.cases))

pub returns-in-Session : goal.returns-in-Session
returns-in-Session c = asks_read c.read_body.ensures (body.Session _) c.in-Some.is c.in-Session.is _ c.open_session.ensures

pub returns-in-Envelope : goal.returns-in-Envelope
returns-in-Envelope c = asks_read c.read_body.ensures (body.Envelope _) c.in-Some.is c.in-Envelope.is _ c.receive_envelope.ensures

pub returns-in-Inventory : goal.returns-in-Inventory
returns-in-Inventory c = asks_read c.read_body.ensures (body.Inventory _) c.in-Some.is c.in-Inventory.is _ c.receive_inventory.ensures

pub returns-in-Fetch : goal.returns-in-Fetch
returns-in-Fetch c =
    asks_read c.read_body.ensures (body.Fetch _) c.in-Some.is c.in-Fetch.is _
    (asks_of _ (λ i. Some (log.fetch c.in-Fetch.peer (sym c.tag_in.ensures i))) c.fetch_tagged.ensures)

pub returns-in-Custody : goal.returns-in-Custody
returns-in-Custody c =
    asks_read c.read_body.ensures (body.Custody _ _) c.in-Some.is c.in-Custody.is _
    (asks_of _ (λ i. Some (log.custody c.in-Custody.peer (sym c.tag_in-in-Custody.ensures i) c.in-Custody.code)) c.receive_custody.ensures)

pub returns-in-Tomb : goal.returns-in-Tomb
returns-in-Tomb c =
    asks_read c.read_body.ensures (body.Tomb _) c.in-Some.is c.in-Tomb.is _
    (asks_of _ (λ i. Some (log.tomb c.in-Tomb.peer (sym c.tag_in-in-Tomb.ensures i) (sym c.get_array-s.ensures i))) c.receive_tomb.ensures)

pub returns-in-Maintenance : goal.returns-in-Maintenance
returns-in-Maintenance c = asks_read c.read_body.ensures body.Maintenance c.in-Some.is c.in-Maintenance.is _ c.maintain.ensures

pub returns-in-Setting : goal.returns-in-Setting
returns-in-Setting c =
    asks_read c.read_body.ensures (body.Setting _ _ _) c.in-Some.is c.in-Setting.is _
    (asked (told_with done_said) (log.setting _ _ _) refl (λ s. setting_told s _ _ _) (on_none _ (tables_in c.args.device.now c.args.exchange.now c.args.tables.now) _ _ c.setting.ensures) (mapped done_said c.setting.result (λ a s h. search rules) c.map-in-Setting.ensures.cases))

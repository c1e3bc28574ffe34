-- `maintain_couriers`: own rows expired once are renewed, the second time dropped; then held rows with expiry ≤ minute go, by slot.
-- Assumes nothing.
use Rattle.std.specs.Prelude.{ℕ, Bool, cond, not, ◌&&◌, List, [], ◌∷◌, ◌++◌, map, ◌==◌, nat_le}
use Rattle.courier_core.specs.declared.Refusal.{Refusal}
use Rattle.courier_core.specs.declared.Refusal.TheVariants as refusal
use Rattle.table.specs.Lists.{filter}
use Rattle.rows.specs.declared.Own.{Own}
use Rattle.rows.specs.declared.Carried.{Carried}
use Rattle.rows.specs.declared.Tombstone.{Tombstone}
use Rattle.rows.specs.declared.Action.{Action}
use Rattle.model.specs.Basics.{merge}
use Rattle.model.specs.State.{State, own_now, carried_now, tombstones_now, ◌and◌}
use Rattle.model.specs.Calls.{Result, result, done, short_actions, delete_courier, put_queued}
use Rattle.model.specs.Contacts.{minute_of, end_of}

abbrev pub own_expired : ℕ → Own → Bool
own_expired minute o = nat_le o.expiry_min minute

abbrev pub carried_expired : ℕ → Carried → Bool
carried_expired minute r = nat_le r.expiry_min minute

abbrev pub tombstone_expired : ℕ → Tombstone → Bool
tombstone_expired minute t = nat_le t.expiry_min minute

-- a renewed byte other than 0 is renewed
abbrev pub is_renewed : Own → Bool
is_renewed o = not (o.renewed == 0)

unfoldable pub renewed : ℕ → ℕ → Own → Own
renewed copies end o = record {
  contact = o.contact;
  msgno = o.msgno;
  tag = o.tag;
  s = o.s;
  expiry_min = end;
  copies = copies;
  renewed = 1;
  len = o.len;
  cell = o.cell;
}

unfoldable pub renew_expired : ℕ → ℕ → ℕ → Own → Own
renew_expired minute copies end o = cond (own_expired minute o) (renewed copies end o) o

-- those expired the second time are dropped, and the other expired ones renewed
unfoldable pub maintain_own : ℕ → ℕ → ℕ → List Own → List Own
maintain_own minute copies end own =
    map (renew_expired minute copies end) (filter (λ (o : Own). not (own_expired minute o && is_renewed o)) own)

unfoldable pub own_puts : ℕ → List Own → List Action
own_puts minute own = map (λ (o : Own). put_queued o.contact o.msgno) (filter (own_expired minute) own)

-- the slots that go, of both kinds merged
unfoldable pub expired_slots : ℕ → List Carried → List Tombstone → List ℕ
expired_slots minute carried tombstones =
    merge (λ (n : ℕ). n) (map (λ (r : Carried). r.slot) (filter (carried_expired minute) carried))
    (map (λ (t : Tombstone). t.slot) (filter (tombstone_expired minute) tombstones))

unfoldable pub maintenance_tests : State → ℕ → List (Bool × Refusal)
maintenance_tests s actions = (short_actions s actions, refusal.ShortArea) ∷ []

unfoldable pub maintain_couriers : State → Result
maintain_couriers s =
    let minute : ℕ = minute_of s in
    result done [] (own_puts minute s.own ++ map delete_courier (expired_slots minute s.carried s.tombstones))
    (own_now (maintain_own minute s.courier.copies (end_of s) s.own)
    and carried_now (filter (λ (r : Carried). not (carried_expired minute r)) s.carried)
    and tombstones_now (filter (λ (t : Tombstone). not (tombstone_expired minute t)) s.tombstones))

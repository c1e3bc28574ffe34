-- Laws of the tests: a row that lives, one that stays, one that is renewed.
-- Assumes nothing.
use Rattle.std.proofs.Common.{◌≡◌, ℕ, ◌+◌, ◌-◌, ◌*◌, ◌<◌, ◌≤◌, Bool, true, false, cond, not, ◌&&◌, ltb, leb, List, length, sym, refl, ap, ◌∙◌, arith, ltb-false, ltb-true, lt-ltb, le-ltb, le-leb}
use borrow.Author.Tests.{lt-leb, not-false}
use Rattle.octets.specs.Bytes.{part, num}
use Rattle.table.proofs.RowLaws.{row_at}
use Rattle.table.specs.Lists.{filter}
use Rattle.table.specs.Rows.{held, rows, RowsNow}
use Rattle.table.specs.Codec.{table_of, TableNow}
use Rattle.table.proofs.TableLaws.{table_retain}
use Rattle.rows.specs.declared.Own.{Own}
use Rattle.rows.specs.declared.Carried.{Carried}
use Rattle.rows.specs.declared.Tombstone.{Tombstone}
use Rattle.rows.specs.Rows.{carried_of, carried_codec, tombstone_of, tombstone_codec}
use Rattle.rows.proofs.Laws.{carried_laws, tombstone_laws}
use Rattle.model.specs.Maintenance.{carried_expired, tombstone_expired, renewed, renew_expired}
use Rattle.maintenance.specs.Expiry.{live_row}

after_is : (minute e : ℕ) → ltb minute e ≡ not (leb e minute)
after_is minute e = go (ltb minute e) refl
  where
    go : (b : Bool) → ltb minute e ≡ b → ltb minute e ≡ not (leb e minute)
    go true t = t ∙ sym (ap not (lt-leb e minute (ltb-true minute e t)))
    go false t = t ∙ sym (ap not (le-leb e minute (ltb-false minute e t)))

-- the test of a row reads its expiry
pub live_row_lem : (row : List ℕ) (o minute : ℕ) {e : ℕ} → e ≡ num (part row o 4) → ltb minute e ≡ live_row o minute row
live_row_lem row o minute {e} q = after_is minute e ∙ ap (λ (z : ℕ). not (leb z minute)) q

-- row i as the code takes it out of an area of n rows
pub tested : (a : List ℕ) (i w n o minute : ℕ) {r : Bool} → r ≡ live_row o minute (part a (i * w) (i * w + w - i * w)) → r ≡ live_row o minute (part a (i * w) w)
tested a i w n o minute e = e ∙ ap (live_row o minute) (row_at a w i n)

-- a test of a row that is there, and of one that is not
pub there : (i n : ℕ) {b r : Bool} → i < n → r ≡ b → r ≡ (ltb i n && b)
there i n {b} h e = e ∙ sym (ap (λ (x : Bool). x && b) (lt-ltb i n h))

pub not_there : (i n : ℕ) (b : Bool) → n ≤ i → false ≡ (ltb i n && b)
not_there i n b h = sym (ap (λ (x : Bool). x && b) (le-ltb i n h))

-- what it says of the row at i
pub lives_yes : (i n e minute : ℕ) {r : Bool} → r ≡ (ltb i n && not (leb e minute)) → r ≡ true → (i < n) × (leb e minute ≡ false)
lives_yes i n e minute f t = go (ltb i n) (leb e minute) refl refl (sym f ∙ t)
  where
    go : (a b : Bool) → ltb i n ≡ a → leb e minute ≡ b → (a && not b) ≡ true → (i < n) × (leb e minute ≡ false)
    go true true p q z = let y : ◌≡◌ {A = ℕ} 0 1 = cc in absurd (omega arith)
    go true false p q z = (ltb-true i n p, q)
    go false b p q z = let y : ◌≡◌ {A = ℕ} 0 1 = cc in absurd (omega arith)

pub lives_no : (i n e minute : ℕ) {r : Bool} → r ≡ (ltb i n && not (leb e minute)) → r ≡ false → i < n → leb e minute ≡ true
lives_no i n e minute f t h = not-false (leb e minute) (sym (sym t ∙ f ∙ ap (λ (a : Bool). a && not (leb e minute)) (lt-ltb i n h)))

module _ (minute : ℕ) (o : Own) where
  pub renewed_live : (copies end : ℕ) → minute < o.expiry_min → o ≡ renew_expired minute copies end o
  unfolding renew_expired
  renewed_live copies end h = sym (ap (λ (b : Bool). cond b (renewed copies end o) o) (lt-leb o.expiry_min minute h))

  pub renewed_expired : (copies end : ℕ) → o.expiry_min ≤ minute → renewed copies end o ≡ renew_expired minute copies end o
  unfolding renew_expired
  renewed_expired copies end h = sym (ap (λ (b : Bool). cond b (renewed copies end o) o) (le-leb o.expiry_min minute h))

-- held rows that live are kept: the expiry of carried rows is at offset 48, that of tombstones at 40
module _ (minute count : ℕ) (a : List ℕ) {m : ℕ} {x : List ℕ} where
  pub carried_kept : RowsNow 57 a (filter (live_row 48 minute) (rows 57 (held (length a) 57 count) a)) m x
      → TableNow carried_codec a (filter (λ (r : Carried). not (carried_expired minute r)) (table_of carried_codec count a)) m x
  unfolding carried_of
  carried_kept N = table_retain carried_laws _ _ _ _ _ refl (live_row 48 minute) _ (λ b. refl) N

  pub tombstones_kept : RowsNow 44 a (filter (live_row 40 minute) (rows 44 (held (length a) 44 count) a)) m x
      → TableNow tombstone_codec a (filter (λ (t : Tombstone). not (tombstone_expired minute t)) (table_of tombstone_codec count a)) m x
  unfolding tombstone_of
  tombstones_kept N = table_retain tombstone_laws _ _ _ _ _ refl (live_row 40 minute) _ (λ b. refl) N

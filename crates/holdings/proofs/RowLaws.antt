-- Laws of tests of one row: of a carried row's depositor, of a bad tag's row.
-- Assumes nothing.
use Rattle.std.proofs.Common.{◌≡◌, ℕ, suc, ◌&&◌, Bool, true, false, cond, refl, eqb, List, [], ◌∷◌, map, length, sym, ap, ◌∙◌, ap₂}
use Rattle.std.proofs.lemmas.Bool.{both_ways}
use Rattle.octets.specs.Bytes.{part, num, same_bytes}
use Rattle.courier_core.specs.declared.ContactId.{ContactId}
use Rattle.table.specs.Lists.{count_by}
use Rattle.table.specs.Rows.{held, rows}
use Rattle.table.specs.Codec.{table_of}
use Rattle.rows.specs.declared.Carried.{Carried}
use Rattle.rows.specs.Rows.{carried_codec, carried_width, carried_of}
use Rattle.model.specs.Basics.{same_contact}
use Rattle.model.specs.Custody.{deposited}

-- a value is not both
pub clash : {A : Type 0} (b : Bool) → b ≡ true → b ≡ false → A
clash _ p q = absurd (both_ways _ q p)

-- ---- carried rows by depositor

-- is the number at 8 of a row's bytes the peer's
abbrev pub deposits : ContactId → List ℕ → Bool
deposits peer row = eqb (num (part row 8 8)) peer.0

pub deposit_all : (count : ℕ) (a : List ℕ) (peer : ContactId) (found : ℕ)
    → found ≡ count_by (deposits peer) (rows carried_width (held (length a) carried_width count) a) → found ≡ deposited (table_of carried_codec count a) peer
unfolding deposited table_of carried_of count_by
deposit_all count a peer found e = e ∙ go (rows carried_width (held (length a) carried_width count) a)
  where
    go : (rs : List (List ℕ)) → count_by (deposits peer) rs ≡ count_by (λ (r : Carried). same_contact r.depositor peer) (map carried_of rs)
    go [] = refl
    go (r ∷ rs) = ap (λ (k : ℕ). cond (deposits peer r) (suc k) k) (go rs)

-- ---- bad tags

-- a row by its peer and its tag
pub bad_row : (row tag : List ℕ) (id v : ℕ) (r : Bool) → v ≡ num (part row 0 8) → eqb v id ≡ true → length tag ≡ 16
    → r ≡ same_bytes (part row 8 (length tag)) tag → r ≡ (eqb (num (part row 0 8)) id && same_bytes (part row 8 16) tag)
bad_row row tag id v r e q l f =
    f ∙ ap₂ (λ (b : Bool) (k : ℕ). b && same_bytes (part row 8 k) tag) (sym (ap (λ (x : ℕ). eqb x id) (sym e) ∙ q)) l

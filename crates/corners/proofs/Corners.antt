-- The marked (◆) corners of document 01, one list about the definitions that the contracts cite.
-- Assumes nothing.
use mathlib.Core.Path.{◌≡◌, refl, sym, ap}
use mathlib.Core.Bool.{Bool, true, false}
use mathlib.Core.List.{List, [], ◌∷◌, ◌++◌}
use Rattle.std.specs.Prelude.{Some, None, Ok}
use Prim.Native.Nat.{ℕ, ◌+◌, ◌*◌, ◌^◌, ◌≤◌, ◌<◌}
use native.Mathlib.Omega.{arith}
use lib.ListN.{length, take, drop}
use Rattle.octets.specs.Bytes.{be}
use Rattle.table.specs.Rows.{all_rows}
use Rattle.table.specs.Lists.{more}
use Rattle.table.specs.Lists as lists
use Rattle.chain.specs.Chain.{is_bucket, window}
use Rattle.courier_core.specs.Core.{number_of}
use Rattle.courier_core.specs.declared.ContactId.{ContactId}
use Rattle.courier.specs.declared.Header.{Header}
use Rattle.courier.specs.declared.Custody.TheVariants as custody
use Rattle.courier.specs.Courier.{carried_length, envelope_valid}
use Rattle.courier.proofs.Laws.{valid_if, not_valid}
use Rattle.state.specs.declared.Carried.{Carried}
use Rattle.state.specs.declared.Tombstone.{Tombstone}
use Rattle.state.specs.Config.{in_range, config_new, config_default}
use Rattle.state.specs.Held.{carried, tombstone, held_row, row_answered, row_area, held_decode}
use Rattle.state.proofs.RowLaws.{ProperTombstone}
use Rattle.state.proofs.HeldLaws.{reads_back_not, ProperCarried, carried_back, carried_refused, tombstone_back}
use Rattle.state.proofs.ConfigLaws.{Within, refused}
use Rattle.model.specs.State.{State}
use Rattle.model.specs.Contacts.{minute_of}
use Rattle.model.specs.Custody.{custody_of}
use Rattle.model.proofs.CornerLaws.{Has, has_all}
use Rattle.model.proofs.Corners.{CourieringCorners, couriering_corners}
use Rattle.corners.proofs.NoCopies.{written, only_above_0}
use Rattle.corners.proofs.Window.{chain_row, last_seven, count_seven, none_left, at_the_end}

-- a ciphertext length that, less 16, is an inner length that a courier carries
abbrev pub InnerCarried : ℕ → Type 0
InnerCarried len = Has (λ (inner : ℕ). inner + 16) len (32 ∷ 64 ∷ 128 ∷ 256 ∷ 512 ∷ 1024 ∷ 2048 ∷ [])

pub record Corners : Type 0 where
  -- ---- chain.rs
  -- 499 skipped, one chain at next 7: 500 entries
  pub skipped_499 : (s : List ℕ) (d g : ℕ) → length s ≡ 499 * 6 → length (window s (chain_row d g 7)) ≡ 500
  -- the last index 7
  pub last_index_7 : (s : List ℕ) (d g : ℕ) → length s ≡ 499 * 6 → window s (chain_row d g 7) ≡ all_rows 6 s ++ ((d ∷ g ∷ be 4 7) ∷ [])
  -- 500 skipped: no chain entry, whatever the chains
  pub skipped_500 : (s c : List ℕ) → length s ≡ 500 * 6 → window s c ≡ all_rows 6 s
  -- next = 2^32: that chain lists none, whatever the chains x before it and y after it
  pub next_at_the_end : (s x y : List ℕ) (d g k : ℕ) → length x ≡ k * 10 → window s (x ++ (chain_row d g (2 ^ 32) ++ y)) ≡ window s (x ++ y)
  -- ---- courier.rs
  -- ciphertext 2,064: valid, of any copies above 0 and any expiry after the minute
  pub ciphertext_2064 : (copies expiry minute : ℕ) → 0 < copies → minute < expiry → envelope_valid 2064 copies expiry minute ≡ true
  -- 2,065 or 15: not
  pub ciphertext_2065 : (copies expiry minute : ℕ) → envelope_valid 2065 copies expiry minute ≡ false
  pub ciphertext_15 : (copies expiry minute : ℕ) → envelope_valid 15 copies expiry minute ≡ false
  -- 4,064: not, though 4,048 is a bucket
  pub ciphertext_4064 : (copies expiry minute : ℕ) → envelope_valid 4064 copies expiry minute ≡ false
  pub bucket_4048 : is_bucket 4048 ≡ true
  -- expiry 11 at minute 10: valid
  pub expiry_11 : (len copies : ℕ) → InnerCarried len → 0 < copies → envelope_valid len copies 11 10 ≡ true
  -- expiry 10: not
  pub expiry_10 : (len copies : ℕ) → envelope_valid len copies 10 10 ≡ false
  -- 0 copies: not, whatever the length and the expiry; a row that is read back may have none (below)
  pub no_copies_invalid : (len expiry minute : ℕ) → envelope_valid len 0 expiry minute ≡ false
  -- and such an envelope is answered Invalid where the courier is enabled
  pub no_copies_code : (s : State) (peer : ContactId) (head : Header) (len : ℕ) → s.courier.enabled ≡ true → head.copies ≡ 0
      → custody_of s peer head len ≡ custody.Invalid
  -- ---- state.rs
  -- (1, 60) and (16, 10,080) pass
  pub config_least : (enabled : Bool) → config_new enabled 1 60 ≡ Ok (record { enabled = enabled; copies = 1; lifetime_min = 60 })
  pub config_most : (enabled : Bool) → config_new enabled 16 10080 ≡ Ok (record { enabled = enabled; copies = 16; lifetime_min = 10080 })
  -- so does the default, 6 and 1,440
  pub default_passes : config_new config_default.enabled config_default.copies config_default.lifetime_min ≡ Ok config_default
  -- 0, 17, 59 and 10,081 fail
  pub copies_0 : (enabled : Bool) (lifetime : ℕ) → number_of (config_new enabled 0 lifetime) ≡ 7
  pub copies_17 : (enabled : Bool) (lifetime : ℕ) → number_of (config_new enabled 17 lifetime) ≡ 7
  pub lifetime_59 : (enabled : Bool) (copies : ℕ) → number_of (config_new enabled copies 59) ≡ 7
  pub lifetime_10081 : (enabled : Bool) (copies : ℕ) → number_of (config_new enabled copies 10081) ≡ 7
  -- a carried row whose copies fell to 0 is still written: its bytes, the copies 0, at the front of the area, and the rest of it stays
  pub no_copies_written : (r : Carried) (ct area : List ℕ) → ProperCarried r → r.header.copies ≡ 0 → 2110 ≤ length area
      → (row_answered (held_row (carried r ct)) area ≡ Ok (46 + length (take 2064 ct)))
      × (row_area (held_row (carried r ct)) area
      ≡ (0 ∷ []) ++ be 8 r.depositor.0 ++ r.header.tag ++ r.header.c ++ be 4 r.header.expiry_min ++ (0 ∷ []) ++ take 2064 ct
      ++ drop (46 + length (take 2064 ct)) area)
  -- and `Held::decode` reads it back (request Five; before it, it was refused)
  pub no_copies_read_back : (r : Carried) (ct : List ℕ) → ProperCarried r → InnerCarried (length ct) → r.header.copies ≡ 0 → 0 < r.header.expiry_min
      → held_decode (held_row (carried r ct)) ≡ Some (carried r ct)
  -- reading back equals what was written, whatever the copies
  pub carried_read_back : (r : Carried) (ct : List ℕ) → ProperCarried r → InnerCarried (length ct) → 0 < r.header.expiry_min
      → held_decode (held_row (carried r ct)) ≡ Some (carried r ct)
  -- only where expiry is above 0
  pub read_back_only : (r : Carried) (ct : List ℕ) → ProperCarried r → held_decode (held_row (carried r ct)) ≡ Some (carried r ct) → 0 < r.header.expiry_min
  -- expiry 0 is refused, whatever the copies and the ciphertext
  pub expiry_0_refused : (r : Carried) (ct : List ℕ) → ProperCarried r → r.header.expiry_min ≡ 0 → held_decode (held_row (carried r ct)) ≡ None
  -- a tombstone row has no such condition
  pub tombstone_read_back : (t : Tombstone) → ProperTombstone t → held_decode (held_row (tombstone t)) ≡ Some (tombstone t)
  -- ---- couriering.rs, a comment a line (model/proofs/Corners.antt)
  pub couriering : CourieringCorners

carried_length_lem : (len : ℕ) → InnerCarried len → carried_length len ≡ true
unfolding carried_length
carried_length_lem len h =
    has_all (λ (n : ℕ). carried_length n ≡ true) h (more refl (more refl (more refl (more refl (more refl (more refl (more refl lists.none)))))))

-- a configuration out of range fails
fails : (enabled : Bool) (copies lifetime : ℕ) → (Within copies lifetime → ⊥) → number_of (config_new enabled copies lifetime) ≡ 7
fails enabled copies lifetime k = ap number_of (sym (refused enabled copies lifetime k).answer)

-- a length that no courier carries is not valid, whatever the copies and the expiry
never_valid : (len : ℕ) → carried_length len ≡ false → (copies expiry minute : ℕ) → envelope_valid len copies expiry minute ≡ false
unfolding envelope_valid
never_valid len h copies expiry minute = rw h

pub corners : Corners
unfolding carried_length in_range config_new
corners = record {
  skipped_499 = count_seven;
  last_index_7 = last_seven;
  skipped_500 = none_left;
  next_at_the_end = at_the_end;
  ciphertext_2064 = λ copies expiry minute. valid_if 2064 copies expiry minute refl;
  ciphertext_2065 = never_valid 2065 refl;
  ciphertext_15 = never_valid 15 refl;
  ciphertext_4064 = never_valid 4064 refl;
  bucket_4048 = refl;
  expiry_11 = λ len copies e h. valid_if len copies 11 10 (carried_length_lem len e) h (omega arith);
  expiry_10 = λ len copies. not_valid len copies 10 10 (λ h k. omega arith);
  no_copies_invalid = λ len expiry minute. not_valid len 0 expiry minute (λ h k. omega arith);
  no_copies_code = λ s peer head len on e.
      couriering_corners.code_invalid s peer head len on (not_valid len head.copies head.expiry_min (minute_of s) (λ h k. omega (arith, e)));
  config_least = λ enabled. refl;
  config_most = λ enabled. refl;
  default_passes = refl;
  copies_0 = λ enabled lifetime. fails enabled 0 lifetime (λ w. omega arith);
  copies_17 = λ enabled lifetime. fails enabled 17 lifetime (λ w. omega arith);
  lifetime_59 = λ enabled copies. fails enabled copies 59 (λ w. omega arith);
  lifetime_10081 = λ enabled copies. fails enabled copies 10081 (λ w. omega arith);
  no_copies_written = written;
  no_copies_read_back = λ r ct p h e. carried_back r p ct (carried_length_lem (length ct) h);
  carried_read_back = λ r ct p h. carried_back r p ct (carried_length_lem (length ct) h);
  read_back_only = only_above_0;
  expiry_0_refused = λ r ct p e. carried_refused r p ct (reads_back_not (length (take 2064 ct)) r.header.expiry_min (λ h k. omega (arith, e)));
  tombstone_read_back = tombstone_back;
  couriering = couriering_corners;
}

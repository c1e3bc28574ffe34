-- Which rows are offered: each is looked for among the listed prefixes and then among the tombstones, and flagged if it is in neither.
-- Assumes nothing.
use Rattle.std.proofs.Common.{◌≡◌, ℕ, ◌+◌, ◌*◌, ◌<◌, ◌≤◌, Bool, true, false, cond, ◌||◌, List, [], ◌∷◌, ◌++◌, map, length, get_or, take, drop, set, sym, refl, ap, ◌∙◌, add-one, arith, length-set, length-take-le, take_all, take-suc, take-suc-set}
use mathlib.Core.List.{map-append}
use Rattle.octets.specs.Bytes.{part, same_bytes}
use Rattle.octets.proofs.Parts.{part_part}
use Rattle.courier_core.specs.declared.ContactId.{ContactId}
use Rattle.table.specs.Lists.{any, count_by}
use Rattle.table.specs.Rows.{held}
use Rattle.table.specs.Codec.{table_of}
use Rattle.table.proofs.ListLaws.{count_append}
use Rattle.table.proofs.RowLaws.{held_all}
use Rattle.table.proofs.FindLaws.{any_next, any_end}
use Rattle.table.proofs.TableLaws.{length_table, table_next}
use Rattle.rows.specs.Rows.{tombstone_codec, tombstone_of}
use Rattle.model.specs.Window.{prefix_codec}
use Rattle.model.specs.Custody.{tombstone_of_tag}
use Rattle.model.specs.Exchange.{in_question, is_offered, no_carried}
use Rattle.offers.specs.declared.Held.{Held}
use Rattle.offers.specs.Areas.{how_many, own_of, carried_of, held_entry}
use Rattle.offers.specs.Entries.{Entry, own_entry, carried_entry, entries, passes}
use Rattle.offers.specs.Offers.{ListsOffers}
use Rattle.offers.proofs.EntryLaws.{length_held, held_is}
use Rattle.offers.proofs.OfferLaws.{Tested}

-- ---- a tag among the listed prefixes from j on, and among the tombstones from j on

module _ (tag listed : List ℕ) (l : ℕ) where
  abbrev pub is_listed : ℕ → Bool
  is_listed j = any (λ (p : List ℕ). same_bytes p (take 8 tag)) (drop j (table_of prefix_codec l listed))

  module _ (fits : l * 8 ≤ length listed) (j : ℕ) where
    listed_held : held (length listed) 8 l ≡ l
    listed_held = held_all (length listed) 8 l (omega arith) fits

    pub listed_next : {d : Bool} (b : Bool) → length tag ≡ 16 → j < l → d ≡ same_bytes (part listed (j * 8) (length (take 8 tag))) (take 8 tag) → d ≡ b → is_listed j ≡ (b || is_listed (j + 1))
    unfolding part
    listed_next b s h e f =
        let k : length (take 8 tag) ≡ 8 = length-take-le 8 tag (omega arith) in
        any_next (λ (p : List ℕ). same_bytes p (take 8 tag)) (table_of prefix_codec l listed) j (part listed (j * 8) 8) b
        (table_next prefix_codec l listed j (omega (arith, listed_held))) (ap (λ (n : ℕ). same_bytes (part listed (j * 8) n) (take 8 tag)) (sym k) ∙ sym e ∙ f)

    pub listed_end : l ≤ j → is_listed j ≡ false
    listed_end h = any_end (λ (p : List ℕ). same_bytes p (take 8 tag)) (table_of prefix_codec l listed) j (omega (arith, length_table prefix_codec l listed, listed_held))

module _ (tag tombs : List ℕ) (g : ℕ) where
  abbrev pub is_tombstoned : ℕ → Bool
  is_tombstoned j = any (tombstone_of_tag tag) (drop j (table_of tombstone_codec g tombs))

  module _ (fits : g * 44 ≤ length tombs) (j : ℕ) where
    tombstones_held : held (length tombs) 44 g ≡ g
    tombstones_held = held_all (length tombs) 44 g (omega arith) fits

    pub tombstoned_next : {d : Bool} (b : Bool) → length tag ≡ 16 → j < g → d ≡ same_bytes (part tombs (j * 44 + 8) (length tag)) tag → d ≡ b
        → is_tombstoned j ≡ (b || is_tombstoned (j + 1))
    unfolding tombstone_of
    tombstoned_next b s h e f =
        let p : part (part tombs (j * 44) 44) 8 16 ≡ part tombs (j * 44 + 8) 16 = part_part tombs (j * 44) 44 8 16 (omega arith) in
        any_next (tombstone_of_tag tag) (table_of tombstone_codec g tombs) j (tombstone_of (part tombs (j * 44) 44)) b
        (table_next tombstone_codec g tombs j (omega (arith, tombstones_held)))
        (ap (λ (x : List ℕ). same_bytes x tag) p ∙ ap (λ (n : ℕ). same_bytes (part tombs (j * 44 + 8) n) tag) (sym s) ∙ sym e ∙ f)

    pub tombstoned_end : g ≤ j → is_tombstoned j ≡ false
    tombstoned_end h = any_end (tombstone_of_tag tag) (table_of tombstone_codec g tombs) j (omega (arith, length_table tombstone_codec g tombs, tombstones_held))

-- ---- the walk: i rows seen, the tombstones searched for a of them

module _ (peer : ContactId) (kept : Held) (listed : List ℕ) (l : ℕ) (tombs : List ℕ) (g : ℕ) (lent : List Bool) where
  abbrev E : List Entry
  E = entries peer (own_of kept) (carried_of kept)

  abbrev here : ℕ → Entry
  here = held_entry peer kept

  abbrev no_entry : Entry
  no_entry = carried_entry no_carried

  abbrev offered : Entry → Bool
  offered = passes (is_offered (table_of tombstone_codec g tombs) (table_of prefix_codec l listed))

  abbrev asked : Entry → Bool
  asked = passes (in_question (table_of prefix_codec l listed))

  pub record Listing (i a : ℕ) (fs : List Bool) : Type 0 where
    pub within : i ≤ how_many kept
    pub few : a ≤ i
    pub flags : take i fs ≡ map offered (take i E)
    pub counted : a ≡ count_by asked (take i E)
    pub size : length fs ≡ length lent

  pub listing_start : Listing 0 0 lent
  unfolding count_by
  listing_start = record { within = omega arith; few = omega arith; flags = refl; counted = refl; size = refl }

  module _ (fits : how_many kept ≤ length lent) {i a : ℕ} {fs : List Bool} (L : Listing i a fs) where
    total : length E ≡ how_many kept
    total = length_held (own_entry peer) carried_entry kept

    -- the row at i: counted if it is searched for, flagged if it is offered
    pub listing_next : (k b : Bool) → i < how_many kept → Tested (table_of tombstone_codec g tombs) (table_of prefix_codec l listed) (here i) k b
        → (c : ℕ) (gs : List Bool) → c ≡ cond k (a + 1) a → gs ≡ set fs i b → Listing (i + 1) c gs
    unfolding count_by
    listing_next k b h t c gs e f =
        let few = L.few in
        let is : get_or E i no_entry ≡ here i = held_is (own_entry peer) carried_entry kept i h in
        let more : take (i + 1) E ≡ take i E ++ (get_or E i no_entry ∷ []) = ap (λ (j : ℕ). take j E) (add-one i) ∙ take-suc E i no_entry (omega (arith, total)) in
        rw (e, f) (record {
          within = omega arith;
          few = one k few;
          flags = ap (λ (j : ℕ). take j (set fs i b)) (add-one i) ∙ take-suc-set fs i b (omega (arith, L.size)) ∙ ap (λ (z : List Bool). z ++ (b ∷ [])) L.flags
              ∙ sym (ap (map offered) more ∙ map-append offered (take i E) (get_or E i no_entry ∷ []) ∙ ap (λ (z : Bool). map offered (take i E) ++ (z ∷ [])) (ap offered is ∙ t.1));
          counted = counts k L.counted (ap asked is ∙ t.0)
              ∙ sym (ap (count_by asked) more ∙ count_append asked (take i E) (get_or E i no_entry ∷ []));
          size = length-set fs i b ∙ L.size;
        })
      where
        one : (k : Bool) → a ≤ i → cond k (a + 1) a ≤ i + 1
        one true h = omega arith
        one false h = omega arith

        counts : (k : Bool) → a ≡ count_by asked (take i E) → asked (get_or E i no_entry) ≡ k
            → cond k (a + 1) a ≡ count_by asked (take i E) + count_by asked (get_or E i no_entry ∷ [])
        counts true c e = rw e (omega arith)
        counts false c e = rw e (omega arith)

    pub listing_end : how_many kept ≤ i → ListsOffers (table_of tombstone_codec g tombs) (table_of prefix_codec l listed) E lent a fs
    listing_end h = let w = L.within in let e : i ≡ length E = omega (arith, total) in record {
      flagged = ap (λ (j : ℕ). take j fs) (sym e) ∙ L.flags ∙ ap (map offered) (take_all i E (omega arith));
      counted = L.counted ∙ ap (count_by asked) (take_all i E (omega arith));
      size = L.size;
    }

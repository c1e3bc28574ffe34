-- Laws of lines. Assumes nothing.
use Rattle.std.proofs.Common.{◌≡◌, ℕ, ◌+◌, ◌*◌, ◌<◌, ◌≤◌, List, [], ◌++◌, length, get_or, take, sym, refl, ap, ◌∙◌, subst, arith, take_all, ne_eqb}
use mathlib.Core.List.{flat_map}
use Rattle.std.specs.Prelude.{Result, Ok, Err, Option, Some, None}
use Rattle.std.specs.Option.{unwrap_or}
use Rattle.std.specs.Result.{result_unwrap_or}
use Rattle.courier_core.specs.declared.Refusal.{Refusal}
use Rattle.octets.specs.Bytes.{part, num}
use Rattle.table.specs.Codec.{Codec, table_of}
use Rattle.table.specs.Rows.{held}
use Rattle.table.proofs.ListLaws.{flat_map_next}
use Rattle.table.proofs.TableLaws.{length_table, get_d_table}
use Rattle.text.specs.Text.{Puts}
use Rattle.text.proofs.TextLaws.{puts_then, puts_within, puts_none}
use Rattle.rows.specs.declared.Reply.{Reply}
use Rattle.rows.specs.declared.Action.{Action}
use Rattle.model.specs.State.{State}
use Rattle.model.specs.Calls as calls
use Rattle.model.specs.Calls.{Answer, refused_or, detail, wrote_of, answer_of}
use Rattle.model.specs.Step.{step}
use Rattle.saved.specs.Blobs.{blob_of, blob_says}
use Rattle.drill_lines.specs.Lines.{put_line, del_line, envelope_line, custody_line, tomb_line, reply_line, action_line, blob_length, count_of}

-- a line of two, three and four texts
module _ {l m : ℕ} {o x y : List ℕ} {at p q : ℕ} {a b : List ℕ} (room : at + 96 ≤ length o) (f : Puts l o at a p x) (g : Puts m x p b q y) where
  pub line2 : l + m ≤ 96 → Puts 96 o at (a ++ b) q y
  line2 h = puts_within h (puts_then f g (omega arith))

  module _ {n : ℕ} {z : List ℕ} {r : ℕ} {c : List ℕ} (e : Puts n y q c r z) where
    pub line3 : l + m + n ≤ 96 → Puts 96 o at (a ++ b ++ c) r z
    line3 h = puts_within h (puts_then (puts_then f g (omega arith)) e (omega arith))

    pub line4 : {k : ℕ} {w : List ℕ} {s : ℕ} {d : List ℕ} → Puts k z r d s w → l + m + n + k ≤ 96 → Puts 96 o at (a ++ b ++ c ++ d) s w
    line4 i h = puts_within h (puts_then (puts_then (puts_then f g (omega arith)) e (omega arith)) i (omega arith))

-- the same place and area, another text that is equal
pub puts_as : {m : ℕ} {o x : List ℕ} {at r : ℕ} {a b : List ℕ} → a ≡ b → Puts m o at a r x → Puts m o at b r x
puts_as {m} {o} {x} {at} {r} e f = subst (λ (t : List ℕ). Puts m o at t r x) e f

-- ---- the line of a reply, by its kind

module _ (r : Reply) where
  pub line_envelope : r.kind ≡ 1 → envelope_line (part r.body 0 16) (num (part r.body 32 4)) (num (part r.body 36 1)) ≡ reply_line r
  unfolding reply_line
  line_envelope e = rw e

  pub line_custody : r.kind ≡ 2 → custody_line (part r.body 0 16) (num (part r.body 16 1)) ≡ reply_line r
  unfolding reply_line
  line_custody e = rw e

  pub line_tomb : r.kind ≡ 3 → tomb_line (part r.body 0 16) ≡ reply_line r
  unfolding reply_line
  line_tomb e = rw e

  pub line_fetch : (r.kind ≡ 1 → ⊥) → (r.kind ≡ 2 → ⊥) → (r.kind ≡ 3 → ⊥) → [] ≡ reply_line r
  unfolding reply_line
  line_fetch h1 h2 h3 = rw (ne_eqb _ 1 h1, ne_eqb _ 2 h2, ne_eqb _ 3 h3)

-- ---- the lines of a table: those of i rows, and one more

module _ {A : Type 0} (c : Codec A) (f : A → List ℕ) (count : ℕ) (t : List ℕ) where
  abbrev T : List A
  T = table_of c count t

  pub lines_none : (o : List ℕ) (at : ℕ) → Puts 0 o at (flat_map f (take 0 T)) at o
  unfolding flat_map
  lines_none o at = puts_none o at

  one_more : (i : ℕ) (a : A) → i < length T → get_or T i a ≡ a → flat_map f (take (i + 1) T) ≡ flat_map f (take i T) ++ f a
  one_more i a h e = flat_map_next f T i a h ∙ ap (λ (x : A). flat_map f (take i T) ++ f x) e

  -- the row at i, and its line behind the lines before it
  pub lines_more : (w i : ℕ) (a : A) {o x y : List ℕ} {at p q : ℕ} → w ≡ c.width → i < held (length t) w count → a ≡ c.decode (part t (i * w) c.width)
      → at + (i * 96 + 96) ≤ length o → Puts (i * 96) o at (flat_map f (take i T)) p x → Puts 96 x p (f a) q y
      → Puts ((i + 1) * 96) o at (flat_map f (take (i + 1) T)) q y
  lines_more w i a {o} {x} {y} {at} {p} {q} ew h ea room g k =
      let b : i < held (length t) c.width count = subst (λ (v : ℕ). i < held (length t) v count) ew h in
      let d : a ≡ c.decode (part t (i * c.width) c.width) = ea ∙ ap (λ (v : ℕ). c.decode (part t (i * v) c.width)) ew in
      let e : flat_map f (take (i + 1) T) ≡ flat_map f (take i T) ++ f a = one_more i a (omega (arith, b, length_table c count t)) (get_d_table c count t i a b ∙ sym d) in
      puts_as (sym e) (puts_within (omega arith) (puts_then g k room))

  pub lines_all : (w i : ℕ) {o x : List ℕ} {at p m : ℕ} → w ≡ c.width → held (length t) w count ≤ i → i ≤ m → Puts (i * 96) o at (flat_map f (take i T)) p x
      → Puts (m * 96) o at (flat_map f T) p x
  lines_all w i ew h l g =
      let b : held (length t) c.width count ≤ i = subst (λ (v : ℕ). held (length t) v count ≤ i) ew h in
      puts_as (ap (flat_map f) (take_all i T (omega (arith, b, length_table c count t)))) (puts_within (omega arith) g)

-- ---- the line of an action, by its kind

module _ (blob : ℕ → ℕ) (a : Action) where
  pub line_put : a.kind ≡ 0 → put_line a.number (blob a.number) ≡ action_line blob a
  unfolding action_line
  line_put e = rw e

  pub line_del : a.kind ≡ 1 → del_line a.number ≡ action_line blob a
  unfolding action_line
  line_del e = rw e

  pub line_own : (a.kind ≡ 0 → ⊥) → (a.kind ≡ 1 → ⊥) → [] ≡ action_line blob a
  unfolding action_line
  line_own h0 h1 = rw (ne_eqb _ 0 h0, ne_eqb _ 1 h1)

-- ---- what the row blob call answers, as a length

count_blob : (x : Answer) → count_of (refused_or Err (Ok (blob_of (detail x))) x) ≡ wrote_of (detail x)
count_blob (calls.refused why) = refl
count_blob (calls.done_with (calls.wrote count)) = refl
count_blob other = refl

-- what unwrapping twice gives
count_unwrapped : (n : Result (Option ℕ) Refusal) → unwrap_or (result_unwrap_or n None) 0 ≡ count_of n
count_unwrapped (Ok (Some k)) = refl
count_unwrapped (Ok None) = refl
count_unwrapped (Err why) = refl

pub length_told : (s : State) (len slot r : ℕ) {o : Option ℕ} (n : Result (Option ℕ) Refusal) → len ≡ 2110 → o ≡ result_unwrap_or n None → r ≡ unwrap_or o 0 → n ≡ answer_of blob_says (step s (calls.row_blob len slot)) → r ≡ blob_length s slot
unfolding blob_length
length_told s len slot r n el eo er en =
    er ∙ ap (λ (x : Option ℕ). unwrap_or x 0) eo ∙ count_unwrapped n ∙ ap count_of en ∙ count_blob (step s (calls.row_blob len slot)).answer ∙ ap (λ (k : ℕ). wrote_of (detail (step s (calls.row_blob k slot)).answer)) el

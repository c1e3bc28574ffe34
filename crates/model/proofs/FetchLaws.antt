-- Request Two: which answers lose a fetch, which fetches, and that nothing else of any answer is another than before.
-- Assumes nothing.
use Rattle.std.proofs.Common.{◌≡◌, ℕ, suc, ◌+◌, Bool, true, false, cond, not, ◌&&◌, ◌||◌, ◌↔◌, List, [], ◌∷◌, ◌++◌, map, length, get_or, take, drop, sym, refl, ap, ◌∙◌, ap₂, ⊎_elim, arith, length-append, Option, Some, None}
use mathlib.Core.Bool.{false≢true}
use mathlib.Core.List.{flat_map}
use Rattle.courier_core.specs.declared.ContactId.{ContactId}
use Rattle.table.specs.Lists.{All, none, more, any, filter, count_by}
use Rattle.table.proofs.ListLaws.{all_imp}
use Rattle.rows.specs.declared.BadTag.{BadTag}
use Rattle.rows.specs.declared.Tombstone.{Tombstone}
use Rattle.rows.specs.declared.Reply.{Reply}
use Rattle.rows.specs.declared.Reachable.{Reachable}
use Rattle.model.specs.Basics.{match_found}
use Rattle.model.specs.State.{State}
use Rattle.model.specs.Calls.{Call, Result, result, telling, done, fetch_reply}
use Rattle.model.specs.Window.{no_reachable, window_rows, lookup, is_bad}
use Rattle.model.specs.Custody.{tombstone_of_tag}
use Rattle.model.specs.Exchange.{reply_for, not_fetched, fetch_for, tomb_for, offers, answer_inventory}
use Rattle.model.specs.Step.{Post, Lent, step, run}
use Rattle.model.specs.Before.{fetch_for_before_two, answer_inventory_before_two, step_before_two, run_before_two}
use Rattle.model.proofs.BeforeLaws.{Terminator, either, terminator_answers, same_run}
use Rattle.model.proofs.CornerLaws.{FirstOf, first_place, first_row, has_any, any_has, place_first, or_right, TombstonesHave}

-- ---- the words

-- the first window row whose tag begins with a prefix, between those before and after it
abbrev pub FirstRow : List Reachable → List ℕ → List Reachable → Reachable → List Reachable → Type 0
FirstRow window prefix x r y = FirstOf (λ (z : Reachable). take (length prefix) z.tag) prefix window x r y

-- the old rule fetches for a listed prefix, and a tombstone has the tag of the first window row that begins with it
pub record LosesFetch (s : State) (window : List Reachable) (peer : ContactId) (prefix : List ℕ) : Type 0 where
  pub earlier : List Reachable
  pub row : Reachable
  pub later : List Reachable
  pub first : FirstRow window prefix earlier row later
  pub fetched : fetch_for_before_two s.bad_tags window peer prefix ≡ fetch_reply row.tag ∷ []
  pub tombstoned : TombstonesHave s.tombstones row.tag

-- fetches, and behind them the tombs and the offers of a terminator's answer
abbrev pub replies_with : State → ContactId → List Reply → List Reply
replies_with s peer fetches = fetches ++ flat_map (tomb_for s.tombstones) s.session.exchange.listed ++ map reply_for (offers s peer)

-- A terminator's answer and the one before: they differ exactly if a listed prefix loses its fetch. Then those fetches are missing, each
-- listed time, and the rest is the same and in its place.
pub record OneFetchLess (s : State) (window : List Reachable) (peer : ContactId) (now before : Result) : Type 0 where
  pub loses : List ℕ → Bool
  pub means : (prefix : List ℕ) → loses prefix ≡ true ↔ LosesFetch s window peer prefix
  pub replies : now.replies
      ≡ replies_with s peer (flat_map (fetch_for_before_two s.bad_tags window peer) (filter (λ (prefix : List ℕ). not (loses prefix)) s.session.exchange.listed))
  pub replies_before : before.replies ≡ replies_with s peer (flat_map (fetch_for_before_two s.bad_tags window peer) s.session.exchange.listed)
  pub fewer : length before.replies ≡ length now.replies + count_by loses s.session.exchange.listed
  pub answer : now.answer ≡ before.answer
  pub actions : now.actions ≡ before.actions
  pub bytes : now.bytes ≡ before.bytes
  pub told : now.told ≡ before.told
  pub change : now.change ≡ before.change
  pub exactly : now ≡ before ↔ All (λ (prefix : List ℕ). LosesFetch s window peer prefix → ⊥) s.session.exchange.listed

-- what request Two changes: there is no fetch if a tombstone has the window tag; and of every call and every list of calls, answered
-- terminators lose those fetches, every other answer is what it was, and so are the holdings after any list
pub record OnlyFetchesLost : Type 0 where
  pub no_fetch : (bad : List BadTag) (ts : List Tombstone) (window : List Reachable) (peer : ContactId) (prefix : List ℕ) (x y : List Reachable) (r : Reachable)
      → FirstRow window prefix x r y → TombstonesHave ts r.tag → fetch_for bad ts window peer prefix ≡ []
  pub terminator : (s : State) (c : Call) (t : Terminator s c) → OneFetchLess s (window_rows t.call.window) t.call.peer (step s c) (step_before_two s c)
  pub others : (s : State) (c : Call) → (Terminator s c → ⊥) → step s c ≡ step_before_two s c
  pub holdings : (p : Post) (ls : List Lent) → run p ls ≡ run_before_two p ls

-- ---- one prefix, and all that are listed

pub count_zero : {A : Type 0} (p : A → Bool) (xs : List A) → count_by p xs ≡ 0 → All (λ (x : A). p x ≡ false) xs
unfolding count_by
count_zero p [] e = none
count_zero p (x ∷ xs) e = go (p x) refl e (count_zero p xs)
  where
    go : (b : Bool) → p x ≡ b → cond b (suc (count_by p xs)) (count_by p xs) ≡ 0 → (count_by p xs ≡ 0 → All (λ (y : _). p y ≡ false) xs)
        → All (λ (y : _). p y ≡ false) (x ∷ xs)
    go true t h rest = absurd (omega arith)
    go false t h rest = more t (rest h)

module _ (bad : List BadTag) (ts : List Tombstone) (window : List Reachable) (peer : ContactId) where
  abbrev tag_at : ℕ → List ℕ
  tag_at i = (get_or window i no_reachable).tag

  -- the window row at i loses its fetch
  abbrev lost_at : ℕ → Bool
  lost_at i = not (is_bad bad peer (tag_at i)) && any (tombstone_of_tag (tag_at i)) ts

  abbrev loses_fetch : List ℕ → Bool
  loses_fetch prefix = match_found (lookup window prefix) lost_at false

  abbrev before : List ℕ → List Reply
  before = fetch_for_before_two bad window peer

  abbrev now : List ℕ → List Reply
  now = fetch_for bad ts window peer

  -- the replies of a prefix are what they were, or lack the one fetch
  abbrev Less : Bool → (was is : List Reply) → Type 0
  Less b was is = (is ≡ cond b [] was) × (length was ≡ length is + cond b 1 0)

  one_prefix : (prefix : List ℕ) → Less (loses_fetch prefix) (before prefix) (now prefix)
  unfolding fetch_for fetch_for_before_two
  one_prefix prefix = go (lookup window prefix)
    where
      by : (b t : Bool) (r : Reply) → Less (not b && t) (cond b [] (r ∷ [])) (cond (b || t) [] (r ∷ []))
      by true t r = (refl, refl)
      by false true r = (refl, refl)
      by false false r = (refl, refl)

      go : (f : Option ℕ) → Less (match_found f lost_at false) (match_found f (λ i. cond (is_bad bad peer (tag_at i)) [] (fetch_reply (tag_at i) ∷ [])) [])
          (match_found f (λ i. cond (not_fetched bad ts peer (tag_at i)) [] (fetch_reply (tag_at i) ∷ [])) [])
      go (Some i) = by (is_bad bad peer (tag_at i)) (any (tombstone_of_tag (tag_at i)) ts) (fetch_reply (tag_at i))
      go None = (refl, refl)

  abbrev kept : List (List ℕ) → List (List ℕ)
  kept ps = filter (λ (p : List ℕ). not (loses_fetch p)) ps

  all_prefixes : (ps : List (List ℕ)) → (flat_map now ps ≡ flat_map before (kept ps)) × (length (flat_map before ps) ≡ length (flat_map now ps) + count_by loses_fetch ps)
  unfolding flat_map filter count_by
  all_prefixes [] = (refl, refl)
  all_prefixes (p ∷ ps) = go (loses_fetch p) (one_prefix p) (all_prefixes ps)
    where
      go : (b : Bool) → Less b (before p) (now p)
          → (flat_map now ps ≡ flat_map before (kept ps)) × (length (flat_map before ps) ≡ length (flat_map now ps) + count_by loses_fetch ps)
          → (now p ++ flat_map now ps ≡ flat_map before (cond (not b) (p ∷ kept ps) (kept ps)))
          × (length (before p ++ flat_map before ps) ≡ length (now p ++ flat_map now ps) + cond b (suc (count_by loses_fetch ps)) (count_by loses_fetch ps))
      go true h r = (
        ap₂ (λ (x y : List Reply). x ++ y) h.0 r.0,
        omega (arith, length-append (before p) (flat_map before ps), length-append (now p) (flat_map now ps), h.1, r.1),
      )
      go false h r = (
        ap₂ (λ (x y : List Reply). x ++ y) h.0 r.0,
        omega (arith, length-append (before p) (flat_map before ps), length-append (now p) (flat_map now ps), h.1, r.1),
      )

  none_lost : (ps : List (List ℕ)) → All (λ (p : List ℕ). loses_fetch p ≡ false) ps → flat_map now ps ≡ flat_map before ps
  unfolding flat_map
  none_lost [] h = refl
  none_lost (p ∷ ps) (more h rest) =
      ap₂ (λ (x y : List Reply). x ++ y) ((one_prefix p).0 ∙ ap (λ (b : Bool). cond b [] (before p)) h) (none_lost ps rest)

-- a tombstoned tag is not fetched, bad or not
tombstone_stops : (bad : List BadTag) (ts : List Tombstone) (window : List Reachable) (peer : ContactId) (prefix : List ℕ) (x y : List Reachable) (r : Reachable)
    → FirstRow window prefix x r y → TombstonesHave ts r.tag → fetch_for bad ts window peer prefix ≡ []
unfolding lookup fetch_for
tombstone_stops bad ts window peer prefix x y r h t =
    rw (first_place h, first_row h no_reachable, or_right (is_bad bad peer r.tag) (any (tombstone_of_tag r.tag) ts) (has_any (λ (z : Tombstone). z.tag) r.tag ts t))

-- ---- the test says what the words do

-- it is not bad, and tombstoned
not_and : (a b : Bool) → (not a && b) ≡ true → (a ≡ false) × (b ≡ true)
not_and true b e = absurd (false≢true e)
not_and false b e = (refl, e)

module _ (s : State) (window : List Reachable) (peer : ContactId) (prefix : List ℕ) where
  abbrev loses_at : ℕ → Bool
  loses_at = lost_at s.bad_tags s.tombstones window peer

  abbrev loses_it : Bool
  loses_it = loses_fetch s.bad_tags s.tombstones window peer prefix

  loses_told : loses_it ≡ true → LosesFetch s window peer prefix
  unfolding lookup fetch_for_before_two
  loses_told e = go (lookup window prefix) refl e
    where
      go : (f : Option ℕ) → lookup window prefix ≡ f → match_found f loses_at false ≡ true → LosesFetch s window peer prefix
      go (Some i) q h =
          let r : Reachable = get_or window i no_reachable in
          let b = not_and (is_bad s.bad_tags peer r.tag) (any (tombstone_of_tag r.tag) s.tombstones) h in
          record {
            earlier = take i window;
            row = r;
            later = drop (i + 1) window;
            first = place_first (λ (z : Reachable). take (length prefix) z.tag) prefix window no_reachable i q;
            fetched = rw (q, b.0);
            tombstoned = any_has (λ (t : Tombstone). t.tag) r.tag s.tombstones b.1;
          }
      go None q h = absurd (false≢true h)

  told_loses : LosesFetch s window peer prefix → loses_it ≡ true
  unfolding lookup fetch_for_before_two
  told_loses l = go (is_bad s.bad_tags peer l.row.tag) refl
    where
      at_row : loses_it ≡ (not (is_bad s.bad_tags peer l.row.tag) && any (tombstone_of_tag l.row.tag) s.tombstones)
      at_row =
          ap (λ (f : Option ℕ). match_found f loses_at false) (first_place l.first)
          ∙ ap (λ (r : Reachable). not (is_bad s.bad_tags peer r.tag) && any (tombstone_of_tag r.tag) s.tombstones) (first_row l.first no_reachable)

      go : (b : Bool) → is_bad s.bad_tags peer l.row.tag ≡ b → loses_it ≡ true
      go true h =
          let e : fetch_for_before_two s.bad_tags window peer prefix ≡ [] = rw (first_place l.first, first_row l.first no_reachable, h) in
          absurd (omega (arith, ap length (sym l.fetched ∙ e)))
      go false h = at_row ∙ rw h (has_any (λ (t : Tombstone). t.tag) l.row.tag s.tombstones l.tombstoned)

-- ---- the terminator

module _ (s : State) (window : List Reachable) (peer : ContactId) where
  abbrev test : List ℕ → Bool
  test = loses_fetch s.bad_tags s.tombstones window peer

  abbrev listed : List (List ℕ)
  listed = s.session.exchange.listed

  abbrev Keeps : List ℕ → Type 0
  Keeps prefix = LosesFetch s window peer prefix → ⊥

  keeps : (prefix : List ℕ) → test prefix ≡ false → Keeps prefix
  keeps prefix h l = false≢true (sym h ∙ told_loses s window peer prefix l)

  keeps_test : (prefix : List ℕ) → Keeps prefix → test prefix ≡ false
  keeps_test prefix k = go (test prefix) refl
    where
      go : (b : Bool) → test prefix ≡ b → b ≡ false
      go true e = absurd (k (loses_told s window peer prefix e))
      go false e = refl

  one_less : OneFetchLess s window peer (answer_inventory s window peer) (answer_inventory_before_two s window peer)
  unfolding answer_inventory answer_inventory_before_two
  one_less =
      let is : List Reply = flat_map (fetch_for s.bad_tags s.tombstones window peer) listed in
      let was : List Reply = flat_map (fetch_for_before_two s.bad_tags window peer) listed in
      let tombs : List Reply = flat_map (tomb_for s.tombstones) listed in
      let sent : List Reply = map reply_for (offers s peer) in
      let all = all_prefixes s.bad_tags s.tombstones window peer listed in
      let few : length (was ++ tombs ++ sent) ≡ length (is ++ tombs ++ sent) + count_by test listed =
      omega (arith, length-append (was ++ tombs) sent, length-append was tombs, length-append (is ++ tombs) sent, length-append is tombs, all.1) in
      record {
        loses = test;
        means = λ prefix. (loses_told s window peer prefix, told_loses s window peer prefix);
        replies = ap (replies_with s peer) all.0;
        replies_before = refl;
        fewer = few;
        answer = refl;
        actions = refl;
        bytes = refl;
        told = refl;
        change = refl;
        exactly = (
          λ e. all_imp keeps listed (count_zero test listed (omega (arith, ap (λ (o : Result). length o.replies) e, few))),
          λ k. ap (λ (rs : List Reply). telling (answer_inventory s window peer).told (result done (replies_with s peer rs) [] (answer_inventory s window peer).change)) (none_lost s.bad_tags s.tombstones window peer listed (all_imp keeps_test listed k)),
        );
      }

-- ---- every call

terminator_less : (s : State) (c : Call) (t : Terminator s c) → OneFetchLess s (window_rows t.call.window) t.call.peer (step s c) (step_before_two s c)
terminator_less s c t =
    let e = terminator_answers answer_inventory_before_two s c t in
    rw (e.0, e.1) (one_less s (window_rows t.call.window) t.call.peer)

pub only_fetches_lost : OnlyFetchesLost
only_fetches_lost = record {
  no_fetch = tombstone_stops;
  terminator = terminator_less;
  others = λ s c n. ⊎_elim (λ e. e) (λ t. absurd (n t)) (either answer_inventory_before_two s c);
  holdings = same_run answer_inventory_before_two (λ s window peer. (one_less s window peer).change);
}

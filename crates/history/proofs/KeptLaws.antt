-- What every list of calls keeps: the order of the tables, the limits, and that a contact is verified as the calls say.
-- Assumes nothing.
use Rattle.std.proofs.Common.{◌≡◌, ◌≤◌, Bool, true, false, cond, eqb, ◌⊎◌, List, [], ◌∷◌, sym, refl, ap, ◌∙◌, inl, inr, arith, eqb-true}
use mathlib.Core.Bool.{false≢true}
use Rattle.courier_core.specs.declared.ContactId.{ContactId}
use Rattle.table.specs.Lists.{any}
use Rattle.rows.specs.declared.Contact.{Contact}
use Rattle.model.specs.State.{State, apply}
use Rattle.model.specs.Calls.{Call}
use Rattle.model.specs.Contacts.{known, is_verified}
use Rattle.model.specs.Custody.{quota, deposited}
use Rattle.model.specs.Step.{Post, Lent, step, state_for, answer_to, after, run}
use Rattle.model.proofs.KeepRows.{or_false}
use Rattle.history.specs.Order.{HeldOrder, OwnOrder}
use Rattle.history.specs.Life.{Role, code_for, contact_says, opens_exchange, lists_prefixes, other, role}
use Rattle.history.specs.Share.{says1, said_by, newest_says, ever_verified}
use Rattle.history.proofs.Effects
use Rattle.history.proofs.Effects.{Effect, ContactStep, Silent}
use Rattle.history.proofs.EffectLaws.{effect}
use Rattle.history.proofs.OrderLaws.{held_kept, own_kept, contacts_kept}
use Rattle.history.proofs.LimitLaws.{Limits, limits_kept, deposited_kept}
use Rattle.history.proofs.ContactLaws.{ShutOut, shut_put, shut_unverified, verified_put}

pub record Kept (s : State) : Type 0 where
  pub held : HeldOrder s.carried s.tombstones s.next_slot s.carried_cells
  pub own : OwnOrder s.contacts s.own s.own_cells
  pub limits : Limits s.contacts s.carried

-- ---- a call

kept_step : (s : State) (c : Call) → Kept s → Kept (apply s (step s c).change)
kept_step s c k =
    let e = effect s c in
    record {
      held = held_kept s (step s c) k.held k.limits.tags_differ e.held;
      own = contacts_kept s (own_kept s k.own e.own) e.contacts;
      limits = limits_kept s (step s c) k.limits e.held e.contacts;
    }

module _ (p : Post) (l : Lent) where
  -- the call gets the tables as they are, and the session that is lent
  pub kept_for : Kept p.state → Kept (state_for p l)
  unfolding state_for
  kept_for k = record { held = k.held; own = k.own; limits = k.limits }

  -- what the call does
  pub effect_at : Effect (state_for p l) l.call (answer_to p l)
  unfolding answer_to
  effect_at = effect (state_for p l) l.call

  pub kept_after : Kept p.state → Kept (after p l).state
  unfolding after answer_to
  kept_after k = kept_step (state_for p l) l.call (kept_for k)

pub kept_run : (p : Post) (ls : List Lent) → Kept p.state → Kept (run p ls).state
unfolding run
kept_run p [] k = k
kept_run p (l ∷ ls) k = kept_run (after p l) ls (kept_after p l k)

-- ---- who is verified

silent_said : (id : ContactId) (v : Bool) (ρ : Role) → Silent ρ → said_by id v ρ ≡ v
silent_said id v (code_for tag code) t = refl
silent_said id v (contact_says who w) t = absurd t
silent_said id v opens_exchange t = refl
silent_said id v (lists_prefixes listed) t = refl
silent_said id v other t = refl

-- a contact call says whether its contact is verified, or the contact found no place
said : (s : State) (id : ContactId) {ρ : Role} {contacts : List Contact} → ContactStep s ρ contacts
    → (is_verified contacts id ≡ said_by id (is_verified s.contacts id) ρ) ⊎ ShutOut contacts id
said s id (Effects.same {ρ = ρ} t) = inl (sym (silent_said id (is_verified s.contacts id) ρ t))
said s id (Effects.puts who v t) = inl (verified_put who v id s.contacts)
said s id (Effects.shut who v k l) = go (eqb who.0 id.0) refl
  where
    go : (b : Bool) → eqb who.0 id.0 ≡ b → (is_verified s.contacts id ≡ cond b (says1 v) (is_verified s.contacts id)) ⊎ ShutOut s.contacts id
    go true e = let z : who ≡ id = λ i. record { 0 = eqb-true who.0 id.0 e i } in inr (ap (known s.contacts) (sym z) ∙ k, l)
    go false e = inl refl

shut_step : (s : State) (id : ContactId) {ρ : Role} {contacts : List Contact} → ContactStep s ρ contacts → ShutOut s.contacts id → ShutOut contacts id
shut_step s id (Effects.same t) h = h
shut_step s id (Effects.puts who v t) h = shut_put who v id s.contacts t h
shut_step s id (Effects.shut who v k l) h = h

module _ (id : ContactId) where
  abbrev verified_in : Post → Bool
  verified_in p = is_verified p.state.contacts id

  contacts_said : (p : Post) (l : Lent) → (verified_in (after p l) ≡ said_by id (verified_in p) (role l.call)) ⊎ ShutOut (after p l).state.contacts id
  unfolding after answer_to state_for
  contacts_said p l = said (state_for p l) id (effect (state_for p l) l.call).contacts

  shut_run : (p : Post) (ls : List Lent) → ShutOut p.state.contacts id → known (run p ls).state.contacts id ≡ false
  unfolding run after answer_to state_for
  shut_run p [] h = h.0
  shut_run p (l ∷ ls) h = shut_run (after p l) ls (shut_step (state_for p l) id (effect (state_for p l) l.call).contacts h)

  -- a contact that is known is verified if the newest contact call on it says 1
  pub verified_run : (p : Post) (ls : List Lent) → known (run p ls).state.contacts id ≡ true → verified_in (run p ls) ≡ newest_says id (verified_in p) ls
  unfolding run
  verified_run p [] k = refl
  verified_run p (l ∷ ls) k = go (contacts_said p l)
      (λ e. verified_run (after p l) ls k ∙ ap (λ (v : Bool). newest_says id v ls) e)
    where
      go : (verified_in (after p l) ≡ said_by id (verified_in p) (role l.call)) ⊎ ShutOut (after p l).state.contacts id
          → (verified_in (after p l) ≡ said_by id (verified_in p) (role l.call) → verified_in (run (after p l) ls) ≡ newest_says id (said_by id (verified_in p) (role l.call)) ls)
          → verified_in (run (after p l) ls) ≡ newest_says id (said_by id (verified_in p) (role l.call)) ls
      go (inl e) f = f e
      go (inr h) f = absurd (false≢true (sym (shut_run (after p l) ls h) ∙ k))

  -- a contact that was never verified has at most 16 rows
  unverified_after : (p : Post) (l : Lent) → said_by id false (role l.call) ≡ false → verified_in p ≡ false → verified_in (after p l) ≡ false
  unverified_after p l h v = go (contacts_said p l)
    where
      go : (verified_in (after p l) ≡ said_by id (verified_in p) (role l.call)) ⊎ ShutOut (after p l).state.contacts id → verified_in (after p l) ≡ false
      go (inl e) = e ∙ ap (λ (b : Bool). said_by id b (role l.call)) v ∙ h
      go (inr q) = shut_unverified (after p l).state.contacts id q.0

  deposited_after : (p : Post) (l : Lent) → Kept p.state → verified_in p ≡ false → deposited p.state.carried id ≤ 16 → deposited (after p l).state.carried id ≤ 16
  unfolding after answer_to state_for
  deposited_after p l k v h =
      let few : quota (verified_in p) ≤ 16 = rw v (omega arith) in
      deposited_kept (state_for p l) (step (state_for p l) l.call) id 16 k.limits.tags_differ few h (effect (state_for p l) l.call).held

  pub never_verified : (p : Post) (ls : List Lent) → Kept p.state → ever_verified id ls ≡ false → verified_in p ≡ false → deposited p.state.carried id ≤ 16
      → deposited (run p ls).state.carried id ≤ 16
  unfolding run any
  never_verified p [] k e v h = h
  never_verified p (l ∷ ls) k e v h =
      let z = or_false (said_by id false (role l.call)) (ever_verified id ls) e in
      never_verified (after p l) ls (kept_after p l k) z.1 (unverified_after p l z.0 v) (deposited_after p l k v h)

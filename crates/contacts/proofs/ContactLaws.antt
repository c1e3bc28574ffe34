-- The calls contact, clock, setting and fresh exchange, by what their tests say.
-- Assumes nothing.
use Rattle.std.proofs.Common.{◌≡◌, ℕ, ◌<◌, ◌≤◌, Bool, true, false, cond, not, ◌&&◌, ◌||◌, ltb, leb, List, [], ◌∷◌, ◌++◌, Result, Ok, Err, length, sym, refl, ap, ◌∙◌, ap₂, arith, le-leb, Option, Some, None}
use borrow.Author.Tests.{lt-leb}
use Rattle.courier_core.specs.Core.{verification_byte}
use Rattle.courier_core.specs.declared.ContactId.{ContactId}
use Rattle.courier_core.specs.declared.Verification.{Verification}
use Rattle.courier_core.specs.declared.Refusal.{Refusal}
use Rattle.courier_core.specs.declared.Refusal.TheVariants as refusal
use Rattle.table.specs.Lists.{replace_at, is_at}
use Rattle.table.specs.Rows.{held, join, written}
use Rattle.table.specs.Codec.{table_of, with_table, TableNow}
use Rattle.state.specs.declared.CourierConfig.{CourierConfig}
use Rattle.state.specs.Config.{in_range, config_new}
use Rattle.rows.specs.declared.Device.{Device}
use Rattle.rows.specs.declared.Exchange.{Exchange}
use Rattle.rows.specs.declared.Contact.{Contact}
use Rattle.rows.specs.Device.{fresh_exchange}
use Rattle.rows.specs.Rows.{contact_codec}
use Rattle.model.specs.Basics.{match_found}
use Rattle.model.specs.State.{contacts_now, courier_now, clock_now}
use Rattle.model.specs.Calls.{contact, setting, clock, open_exchange, done}
use Rattle.model.specs.Contacts.{set_clock, known, contact_place, put_contact, contact_tests, set_contact, setting_tests, set_config, open_exchange_tests, open_exchanged, opened_for}
use Rattle.model.specs.Step.{step, tests, perform}
use Rattle.model.specs.Areas.{Areas, Written, view, view_session, store, store_device, store_session}
use Rattle.model.specs.Lent.{Does, no_answers, device_in, contacts_in, exchange_in}
use Rattle.contacts.specs.Answers.{said_of}
use Rattle.table.proofs.TableLaws.{length_table}
use Rattle.holdings.proofs.FindLaws.{is_known_lem}
use Rattle.model.proofs.CallLaws.{refused_here, not_here, no_test, quiet_call, refused_call}

module _ (d : Device) (x : List ℕ) (id : ContactId) (v : Verification) where
  abbrev T : List Contact
  T = table_of contact_codec d.contacts x

  abbrev entry : ℕ → Contact
  entry b = record { id = id; verification = b }

  abbrev refuses : Bool
  refuses = not (known T id) && leb 256 (length T)

  -- the table after the call, by the place of the contact
  put : Option ℕ → ℕ → List Contact
  put f b = match_found f (λ i. replace_at i (entry b) T) (T ++ (entry b ∷ []))

  module _ {f : Option ℕ} (e : f ≡ contact_place T id) where
    put_at : {b : ℕ} → b ≡ verification_byte v → put_contact T id v ≡ put f b
    unfolding put_contact put
    put_at q = ap₂ put (sym e) (sym q)

    refuses_at : {n : ℕ} {b : Bool} → n ≡ held (length x) 9 d.contacts → leb 256 n ≡ b → refuses ≡ (not (is_at f) && b)
    refuses_at h t =
        ap₂ (λ (k m : _). not k && m) (sym (is_known_lem d.contacts x id f e))
        (ap (leb 256) (length_table contact_codec d.contacts x ∙ sym h) ∙ t)

  module _ (a : Areas) where
    abbrev lent : Areas
    lent = device_in d (contacts_in x a)

    taken : {n : ℕ} {y : List ℕ} {ts : List Contact} → refuses ≡ false → put_contact T id v ≡ ts → TableNow contact_codec x ts n y
        → Written said_of (step (view lent) (contact id v)) (Ok tt) lent (device_in (record d { contacts = n }) (contacts_in y a)) no_answers no_answers
    unfolding step tests perform contact_tests set_contact view store store_device store_session
    taken t e N =
        quiet_call done (contacts_now (put_contact T id v)) (not_here _ _ _ t (no_test _)) refl
        (ap₂ (λ (m : ℕ) (z : List ℕ). device_in (record d { contacts = m }) (contacts_in z a)) (N.count ∙ ap length (sym e))
        (N.area ∙ ap (with_table contact_codec x) (sym e)))

    module _ {b n : ℕ} {y : List ℕ} (w : b ≡ verification_byte v) where
      pub altered : {i : ℕ} → Some i ≡ contact_place T id → TableNow contact_codec x (replace_at i (entry b) T) n y
          → Written said_of (step (view lent) (contact id v)) (Ok tt) lent (device_in (record d { contacts = n }) (contacts_in y a)) no_answers no_answers
      unfolding put
      altered {i} e N = taken (ap (λ (k : Bool). not k && leb 256 (length T)) (sym (is_known_lem d.contacts x id (Some i) e))) (put_at e w) N

      pub added : {m : ℕ} → None ≡ contact_place T id → m ≡ held (length x) 9 d.contacts → m < 256
          → TableNow contact_codec x (T ++ (entry b ∷ [])) n y
          → Written said_of (step (view lent) (contact id v)) (Ok tt) lent (device_in (record d { contacts = n }) (contacts_in y a)) no_answers no_answers
      unfolding put
      added {m} e h t N = taken (refuses_at e h (lt-leb 256 m t)) (put_at e w) N

    pub full : {m : ℕ} → None ≡ contact_place T id → m ≡ held (length x) 9 d.contacts → 256 ≤ m
        → Written said_of (step (view lent) (contact id v)) (Err refusal.LogRecord) lent lent no_answers no_answers
    unfolding step tests perform contact_tests view
    full {m} e h t = refused_call refusal.LogRecord (refused_here _ _ _ (refuses_at e h (le-leb 256 m t))) refl refl

-- the clock
pub clocked : (d : Device) (seconds : ℕ) → Does said_of (clock seconds) (Ok tt) (device_in d) (device_in (record d { now_s = seconds })) no_answers no_answers
unfolding step tests perform set_clock store store_device store_session
clocked d seconds a = quiet_call done (clock_now seconds) (no_test _) refl refl

-- the setting
module _ (d : Device) (enabled : Bool) (copies lifetime : ℕ) where
  abbrev config : CourierConfig
  config = record { enabled = enabled; copies = copies; lifetime_min = lifetime }

  abbrev choice : Bool → Result CourierConfig Refusal
  choice b = cond b (Ok config) (Err refusal.Configuration)

  pub set : {courier : CourierConfig} → Ok courier ≡ config_new enabled copies lifetime
      → Does said_of (setting enabled copies lifetime) (Ok tt) (device_in d) (device_in (record d { courier = courier })) no_answers no_answers
  unfolding config_new step tests perform setting_tests set_config store store_device store_session
  set {courier} q a = go (in_range copies lifetime) refl q
    where
      go : (b : Bool) → in_range copies lifetime ≡ b → Ok courier ≡ choice b
          → Written said_of (step (view (device_in d a)) (setting enabled copies lifetime)) (Ok tt) (device_in d a) (device_in (record d { courier = courier }) a) no_answers no_answers
      go true e f =
          let k : courier ≡ config = cc in
          quiet_call done (courier_now config) (not_here _ _ _ (ap not e) (no_test _)) refl
          (ap (λ (x : CourierConfig). device_in (record d { courier = x }) a) k)
      go false e f = let z : ◌≡◌ {A = ℕ} 0 1 = cc in absurd (omega arith)

  pub not_set : {why : Refusal} → Err why ≡ config_new enabled copies lifetime
      → Does said_of (setting enabled copies lifetime) (Err why) (device_in d) (device_in d) no_answers no_answers
  unfolding config_new step tests perform setting_tests
  not_set {why} q a = go (in_range copies lifetime) refl q
    where
      go : (b : Bool) → in_range copies lifetime ≡ b → Err why ≡ choice b
          → Written said_of (step (view (device_in d a)) (setting enabled copies lifetime)) (Err why) (device_in d a) (device_in d a) no_answers no_answers
      go true e f = let z : ◌≡◌ {A = ℕ} 0 1 = cc in absurd (omega arith)
      go false e f = let k : why ≡ refusal.Configuration = cc in refused_call refusal.Configuration (refused_here _ _ _ (ap not e)) (ap Err k) refl

-- a fresh exchange
module _ (d : Device) (x : List ℕ) (peer : ContactId) (pre off : List ℕ) (e : Exchange) (a : Areas) where
  abbrev with : Exchange → Areas
  with f = device_in d (contacts_in x (exchange_in f pre off a))

  abbrev short : Bool
  short = ltb (length pre) 4096 || ltb (length off) 8704

  pub too_short : short ≡ true → Written said_of (step (view (with e)) (open_exchange peer)) (Err refusal.ShortArea) (with e) (with e) no_answers no_answers
  unfolding step tests perform open_exchange_tests view view_session
  too_short h = refused_call refusal.ShortArea (refused_here _ _ _ h) refl refl

  module _ (long : short ≡ false) where
    pub stranger : known (table_of contact_codec d.contacts x) peer ≡ false
        → Written said_of (step (view (with e)) (open_exchange peer)) (Err refusal.UnknownContact) (with e) (with e) no_answers no_answers
    unfolding step tests perform open_exchange_tests view view_session
    stranger k = refused_call refusal.UnknownContact (not_here _ _ _ long (refused_here _ _ _ (ap not k))) refl refl

    pub opens : known (table_of contact_codec d.contacts x) peer ≡ true → {f : Exchange} → f ≡ fresh_exchange peer
        → Written said_of (step (view (with e)) (open_exchange peer)) (Ok tt) (with e) (with f) no_answers no_answers
    unfolding step tests perform open_exchange_tests open_exchanged opened_for view view_session store store_device store_session with_table written join
    opens k q = quiet_call done (opened_for peer) (not_here _ _ _ long (not_here _ _ _ (ap not k) (no_test _))) refl (ap with q)

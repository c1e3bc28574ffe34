-- The law of the store: the view of what a change leaves in the areas is the state that the change leaves, where that fits.
-- Assumes nothing.
use Rattle.std.proofs.Common.{◌≡◌, ℕ, ◌*◌, ◌/◌, ◌≤◌, min, List, [], ◌∷◌, map, length, refl, ap, ap₂, ◌∙◌, div-mul-le_self, arith}
use Rattle.table.specs.Lists.{All, more}
use Rattle.table.specs.Codec.{Codec, CodecLaws, table_of, with_table}
use Rattle.table.proofs.TableLaws.{table_with, length_with}
use Rattle.rows.specs.Proper.{Run}
use Rattle.rows.proofs.Laws.{contact_laws, own_laws, carried_laws, tombstone_laws, bad_tag_laws, offer_laws}
use Rattle.model.specs.State.{Session, Upd, keep, now, upd, upd_session, upd_sessions, SessionChange, Change, apply}
use Rattle.model.specs.Window.{prefix_codec}
use Rattle.model.specs.Areas.{Areas, SessionAreas, view, view_session, store, store_device, store_session, store_sessions, count_after, bytes_after}
use Rattle.model.specs.Good.{Sized, GoodSession, Good}

pub prefix_laws : CodecLaws prefix_codec (Run 8)
prefix_laws = record {
  wide = omega arith;
  size = λ b p. p.size;
  decode_encode = λ b p. refl;
  encode_decode = λ b l p. refl;
  proper = λ b l p. record { size = l; bytes = p };
}

-- a table of any codec after a change, its count cut to at most m
module _ {A : Type 0} {c : Codec A} {P : A → Type 0} (k : CodecLaws c P) (a : List ℕ) where
  table_after : (count : ℕ) (u : Upd (List A)) → All P (upd (table_of c count a) u) → length (upd (table_of c count a) u) * c.width ≤ length a
      → table_of c (count_after count u) (bytes_after c a u) ≡ upd (table_of c count a) u
  table_after count keep p l = refl
  table_after count (now rs) p l = table_with k a rs p l

  length_after : (count : ℕ) (u : Upd (List A)) → All P (upd (table_of c count a) u) → length (upd (table_of c count a) u) * c.width ≤ length a
      → length (bytes_after c a u) ≡ length a
  length_after count keep p l = refl
  length_after count (now rs) p l = length_with k a rs p l

  -- the same where a count above 512 is 512
  cut_after : (count : ℕ) (u : Upd (List A)) → All P (upd (table_of c (min 512 count) a) u) → length (upd (table_of c (min 512 count) a) u) ≤ 512
      → length (upd (table_of c (min 512 count) a) u) * c.width ≤ length a
      → table_of c (min 512 (count_after count u)) (bytes_after c a u) ≡ upd (table_of c (min 512 count) a) u
  cut_after count keep p f l = refl
  cut_after count (now rs) p f l =
      let e : min 512 (length rs) ≡ length rs = omega arith in
      ap (λ (n : ℕ). table_of c n (with_table c a rs)) e ∙ table_with k a rs p l

-- ---- a session

module _ (e : SessionAreas) (c : SessionChange) (g : GoodSession (upd_session (view_session e) c)) where
  prefixes_length : length (store_session e c).prefixes ≡ length e.prefixes
  unfolding store_session view_session
  prefixes_length = length_after prefix_laws e.prefixes (min 512 e.exchange.listed) c.listed g.listed g.listed_fit

  offers_length : length (store_session e c).offers ≡ length e.offers
  unfolding store_session view_session
  offers_length = length_after offer_laws e.offers (min 512 e.exchange.offered) c.offered g.offered g.offered_fit

  pub view_store_session : view_session (store_session e c) ≡ upd_session (view_session e) c
  unfolding store_session view_session
  view_store_session = λ i. record {
    exchange = record {
      peer = upd e.exchange.peer c.peer;
      complete = upd e.exchange.complete c.complete;
      listed = cut_after prefix_laws e.prefixes e.exchange.listed c.listed g.listed g.listed_few g.listed_fit i;
      offered = cut_after offer_laws e.offers e.exchange.offered c.offered g.offered g.offered_few g.offered_fit i;
    };
    prefix_area = prefixes_length i;
    offer_area = offers_length i;
  }

view_store_sessions : (es : List SessionAreas) (cs : List SessionChange) → All GoodSession (upd_sessions (map view_session es) cs)
    → map view_session (store_sessions es cs) ≡ upd_sessions (map view_session es) cs
view_store_sessions es [] g = refl
view_store_sessions [] (c ∷ cs) g = refl
view_store_sessions (e ∷ es) (c ∷ cs) (more h g) = ap₂ (λ (x : Session) (xs : List Session). x ∷ xs) (view_store_session e c h) (view_store_sessions es cs g)

-- ---- all areas

module _ (a : Areas) (c : Change) (s : Sized a) (g : Good (apply (view a) c)) where
  contacts_fit : length (apply (view a) c).contacts * 9 ≤ length a.contacts
  contacts_fit = omega (arith, g.contacts_few, s.contacts)

  own_fit : length (apply (view a) c).own * 54 ≤ length a.own
  own_fit = omega (arith, g.own_few, s.own)

  carried_fit : length (apply (view a) c).carried * 57 ≤ length a.carried
  carried_fit = omega (arith, g.carried_few, s.carried)

  tombstones_fit_lem : length (apply (view a) c).tombstones * 44 ≤ length a.tombstones
  unfolding apply view
  tombstones_fit_lem = omega (arith, g.tombstones_fit, div-mul-le_self (length a.tombstones) 44)

  bad_tags_fit_lem : length (apply (view a) c).bad_tags * 24 ≤ length a.bad_tags
  unfolding apply view
  bad_tags_fit_lem = omega (arith, g.bad_tags_fit, div-mul-le_self (length a.bad_tags) 24)

  tombstones_length : length (store a c).tombstones ≡ length a.tombstones
  unfolding apply view store tombstones_fit_lem
  tombstones_length = length_after tombstone_laws a.tombstones a.device.tombstones c.held.tombstones g.tombstones tombstones_fit_lem

  bad_tags_length : length (store a c).bad_tags ≡ length a.bad_tags
  unfolding apply view store bad_tags_fit_lem
  bad_tags_length = length_after bad_tag_laws a.bad_tags a.device.bad_tags c.people.bad_tags g.bad_tags bad_tags_fit_lem

  -- the arrays keep their sizes
  pub sized_store : Sized (store a c)
  unfolding apply view store
  sized_store = record {
    contacts = length_after contact_laws a.contacts a.device.contacts c.people.contacts g.contacts contacts_fit ∙ s.contacts;
    own = length_after own_laws a.own a.device.own c.queue.own g.own own_fit ∙ s.own;
    carried = length_after carried_laws a.carried a.device.carried c.held.carried g.carried carried_fit ∙ s.carried;
  }

  pub view_store : view (store a c) ≡ apply (view a) c
  unfolding apply view store store_device
  view_store = λ i. record {
    now_s = upd a.device.now_s c.now_s;
    courier = upd a.device.courier c.courier;
    contacts = table_after contact_laws a.contacts a.device.contacts c.people.contacts g.contacts contacts_fit i;
    own = table_after own_laws a.own a.device.own c.queue.own g.own own_fit i;
    carried = table_after carried_laws a.carried a.device.carried c.held.carried g.carried carried_fit i;
    tombstones = table_after tombstone_laws a.tombstones a.device.tombstones c.held.tombstones g.tombstones tombstones_fit_lem i;
    bad_tags = table_after bad_tag_laws a.bad_tags a.device.bad_tags c.people.bad_tags g.bad_tags bad_tags_fit_lem i;
    next_slot = upd a.device.next_slot c.next_slot;
    own_cells = upd a.own_cells c.queue.own_cells;
    carried_cells = upd a.carried_cells c.held.carried_cells;
    tombstone_rows = tombstones_length i / 44;
    bad_tag_rows = bad_tags_length i / 24;
    session = view_store_session a.session c.session g.session i;
    sessions = view_store_sessions a.sessions c.sessions g.sessions i;
  }

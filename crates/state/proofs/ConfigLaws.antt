-- Laws of a configuration's range.
-- Assumes nothing.
use Rattle.std.proofs.Common.{◌≡◌, ℕ, ◌≤◌, Bool, true, false, ◌&&◌, leb, refl, le-leb, leb-true}
use Rattle.courier.proofs.Laws.{both}
use Rattle.courier_core.specs.declared.Refusal.TheVariants as refusal
use Rattle.std.specs.Prelude.{Ok, Err}
use Rattle.state.specs.Config.{in_range, config_new, IsConfigured}

-- each of the four ends
abbrev pub Within : ℕ → ℕ → Type 0
Within copies lifetime = (1 ≤ copies) × (copies ≤ 16) × (60 ≤ lifetime) × (lifetime ≤ 10080)

module _ (enabled : Bool) (copies lifetime : ℕ) where
  pub in_range_lem : in_range copies lifetime ≡ true → Within copies lifetime
  unfolding in_range
  in_range_lem e =
      let d = both (leb 1 copies && leb copies 16 && leb 60 lifetime) (leb lifetime 10080) e in
      let l = both (leb 1 copies && leb copies 16) (leb 60 lifetime) d.0 in
      let k = both (leb 1 copies) (leb copies 16) l.0 in
      (leb-true 1 copies k.0, leb-true copies 16 k.1, leb-true 60 lifetime l.1, leb-true lifetime 10080 d.1)

  pub refused : (Within copies lifetime → ⊥) → IsConfigured enabled copies lifetime (Err refusal.Configuration)
  unfolding config_new
  refused k = go (in_range copies lifetime) refl
    where
      go : (b : Bool) → in_range copies lifetime ≡ b → IsConfigured enabled copies lifetime (Err refusal.Configuration)
      go true e = absurd (k (in_range_lem e))
      go false e = record { answer = rw e; number = rw e }

  pub taken : Within copies lifetime
      → IsConfigured enabled copies lifetime (Ok (record { enabled = enabled; copies = copies; lifetime_min = lifetime }))
  unfolding config_new in_range
  taken w =
      let e : in_range copies lifetime ≡ true =
      rw (le-leb 1 copies w.0, le-leb copies 16 w.1, le-leb 60 lifetime w.2, le-leb lifetime 10080 w.3) in
      record { answer = rw e; number = rw e }

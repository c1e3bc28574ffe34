-- Document 01's `CourierConfig::new` and its default.
-- Assumes nothing.
use Rattle.std.specs.Prelude.{◌≡◌, ℕ, Bool, true, cond, ◌&&◌, nat_le, Result, Ok, Err}
use Rattle.courier_core.specs.Core.{number_of}
use Rattle.courier_core.specs.declared.Refusal.{Refusal}
use Rattle.courier_core.specs.declared.Refusal.TheVariants as refusal
use Rattle.state.specs.declared.CourierConfig.{CourierConfig}

-- copies 1 to 16 and a lifetime of 60 to 10,080 minutes
unfoldable pub in_range : ℕ → ℕ → Bool
in_range copies lifetime = nat_le 1 copies && nat_le copies 16 && nat_le 60 lifetime && nat_le lifetime 10080

unfoldable pub config_new : Bool → ℕ → ℕ → Result CourierConfig Refusal
config_new enabled copies lifetime =
    cond (in_range copies lifetime) (Ok (record { enabled = enabled; copies = copies; lifetime_min = lifetime }))
    (Err refusal.Configuration)

pub record IsConfigured (enabled : Bool) (copies lifetime : ℕ) (said : Result CourierConfig Refusal) : Type 0 where
  pub answer : said ≡ config_new enabled copies lifetime
  pub number : number_of said ≡ cond (in_range copies lifetime) 0 7

abbrev pub config_default : CourierConfig
config_default = record { enabled = true; copies = 6; lifetime_min = 1440 }

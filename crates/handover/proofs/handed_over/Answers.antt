-- The tests in order, and then the offer, which is settled where it is found.
use Rattle.std.proofs.Common.{◌≡◌, ℕ, min, refl, sym, ap, ◌∙◌}
use Rattle.table.specs.Lists.{position}
use Rattle.table.specs.Codec.{table_of}
use Rattle.rows.specs.Rows.{offer_codec}
use Rattle.model.specs.Exchange.{offer_of_tag, no_offer}
use Rattle.holdings.proofs.SearchLaws.{found_inside}
use Rattle.handover.proofs.LeaveLaws.{code_lends}
use Rattle.handover.proofs.CallLaws.{other_peer, other_code, not_accepted, accepted, code_short, code_stranger, code_other, code_settled, code_unknown}
use Rattle.handover.proofs.handed_over.Goals as goal
use Rattle.handover.proofs.handed_over.Goals.{After-offer_of_tag}

-- where the offer stands among the 512 that count
found : (c : After-offer_of_tag) → c.offer_of_tag.result ≡ position (offer_of_tag c.args.tag) (table_of offer_codec (min 512 c.args.exchange.now.offered) c.args.offers.now)
found c = c.offer_of_tag.ensures ∙ ap (λ (k : ℕ). position (offer_of_tag c.args.tag) (table_of offer_codec k c.args.offers.now)) c.min.ensures

pub returns-then-too_short : goal.returns-then-too_short
returns-then-too_short c = code_lends (λ a.
    code_short _ _ _ _ _ _ _ _ _ _ _ _ a (sym c.if-too_short.ensures))

pub returns-then-not-known : goal.returns-then-not-known
returns-then-not-known c = code_lends (λ a.
    code_stranger _ _ _ _ _ _ _ _ _ _ _ _ a (sym c.if-too_short.ensures) (sym c.if-not-known.ensures))

pub returns-then-ne : goal.returns-then-ne
returns-then-ne c = code_lends (λ a.
    code_other _ _ _ _ _ _ _ _ _ _ _ _ a (sym c.if-too_short.ensures) (sym c.if-not-known.ensures) (other_peer _ _ (λ p. refl) c.args.exchange.now.peer c.ne.ensures c.if-ne.true))

pub returns-in_default : goal.returns-in_default
returns-in_default c = code_lends (λ a.
    code_unknown _ _ _ _ _ _ _ _ _ _ _ _ a (sym c.if-too_short.ensures) (sym c.if-not-known.ensures) (other_peer _ _ (λ p. refl) c.args.exchange.now.peer c.ne.ensures c.if-ne.false) (found (goal.at.returns-in_default c).After-offer_of_tag) c.in_default.is)

pub clear_offer-copies-requires : goal.clear_offer-copies-requires
clear_offer-copies-requires c =
    found_inside offer_codec (min 512 c.args.exchange.now.offered) c.args.offers.now (offer_of_tag c.args.tag) no_offer (sym c.in-Some.is ∙ found (goal.at.clear_offer-copies-requires c).After-offer_of_tag)

pub returns-then-ne-2 : goal.returns-then-ne-2
returns-then-ne-2 c = code_lends (λ a.
    code_settled _ _ _ _ _ _ _ _ _ _ _ _ a (sym c.if-too_short.ensures) (sym c.if-not-known.ensures) (other_peer _ _ (λ p. refl) c.args.exchange.now.peer c.ne.ensures c.if-ne.false) (found (goal.at.returns-then-ne-2 c).After-offer_of_tag) c.in-Some.is
    (λ x. not_accepted _ _ _ _ _ _ _ _ _ _ x c.clear_offer-copies.ensures (other_code c.args.code c.ne-2.ensures c.if-ne-2.true)))

pub returns : goal.returns
returns c = code_lends (λ a.
    code_settled _ _ _ _ _ _ _ _ _ _ _ _ a (sym c.if-too_short.ensures) (sym c.if-not-known.ensures) (other_peer _ _ (λ p. refl) c.args.exchange.now.peer c.ne.ensures c.if-ne.false) (found (goal.at.returns c).After-offer_of_tag) c.in-Some.is
    (λ x. accepted _ _ _ _ _ _ _ _ _ _ x c.clear_offer-copies.ensures (other_code c.args.code c.ne-2.ensures c.if-ne-2.false) c.hand_over.ensures))

-- The rows seen so far are flagged or not; within a row, what is left of each search decides.
use Rattle.std.proofs.Common.{◌≡◌}
use Rattle.offers.proofs.ListingLaws.{is_listed, is_tombstoned, Listing}
use Rattle.offers.proofs.list_offers.Given as goal

abbrev pub invariant-loop-j : goal.invariant-loop-j
invariant-loop-j l = is_listed l.row.tag l.listed.area.now l.listed.n 0 ≡ is_listed l.row.tag l.listed.area.now l.listed.n l.j

abbrev pub invariant-loop-t : goal.invariant-loop-t
invariant-loop-t l = is_tombstoned l.row.tag l.tombstones.area.now l.tombstones.n 0 ≡ is_tombstoned l.row.tag l.tombstones.area.now l.tombstones.n l.t

abbrev pub invariant-loop-i : goal.invariant-loop-i
invariant-loop-i l =
    Listing l.peer l.held l.listed.area.now l.listed.n
    l.tombstones.area.now l.tombstones.n l.initial.flags l.i l.searched l.flags

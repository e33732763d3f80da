-- The trail of CheckLate stands, entry by entry.
use Rattle.std.proofs.Common.{true, false, None, refl, arith, ap, take}
use Rattle.trail_worked.proofs.Rules.{start, offers}
use Rattle.trail_worked.proofs.Spots.{AreGood, spot_behind}
use Rattle.trail_worked.proofs.Where.{kinds_of}
use Rattle.topo_rules.specs.declared.event.TopoEvent.TheVariants as event
use Rattle.desk_trail.specs.declared.entry.OfferedHow.TheVariants as offered
use Rattle.trail_worked.specs.OneInsert.{alone, client_of_one, standalone}
use Rattle.trail_worked.specs.CheckLate.{check_late}

pub good : AreGood client_of_one (start client_of_one) check_late
good = (
  record { time = refl; turn = refl; going = tt; rule = refl; command = tt },
  (
    record { time = omega arith; turn = tt; going = tt; rule = (_, refl, (record { stays = refl; rests = refl; due = omega arith }, refl)); command = tt },
    (
      record { time = refl; turn = record { on = refl; is_for = refl; bytes = refl }; going = tt; rule = record { next = refl; id = refl; is_for = tt }; command = tt },
      (
        record { time = omega arith; turn = tt; going = tt; rule = (_, refl, (0, record { stays = refl; since = refl }, refl)); command = tt },
        (
          record { time = refl; turn = record { description = standalone; says = refl; of_host = refl }; going = tt; rule = offers (spot_behind client_of_one (start client_of_one) (take 4 check_late)) 0 (event.Reply standalone 100) (offered.Accepted true) refl (λ h. absurd (cc), λ s. let k = s.kind in absurd (cc)); command = tt },
          (
            record { time = refl; turn = refl; going = tt; rule = (_, refl, refl); command = tt },
            (
              record { time = omega arith; turn = tt; going = tt; rule = (_, refl, (record { stays = refl; rests = refl; due = omega arith }, refl)); command = tt },
              (
                record { time = refl; turn = record { on = refl; is_for = refl; bytes = refl }; going = tt; rule = record { next = refl; id = refl; is_for = tt }; command = tt },
                (
                  record { time = omega arith; turn = tt; going = tt; rule = (_, refl, (10000100, record { stays = refl; since = refl }, omega arith)); command = tt },
                  (
                    record { time = refl; turn = refl; going = tt; rule = offers (spot_behind client_of_one (start client_of_one) (take 9 check_late)) 1 (event.Broken alone None) (offered.Accepted true) refl (λ h. absurd (cc), λ s. let k = ap kinds_of s.servers in absurd (cc)); command = tt },
                    (
                      record { time = refl; turn = refl; going = tt; rule = (_, refl, tt); command = tt },
                      (
                        record { time = omega arith; turn = tt; going = tt; rule = (_, refl, (record { stays = refl; rests = refl; due = omega arith }, refl)); command = tt },
                        (
                          record { time = refl; turn = record { on = refl; is_for = refl; bytes = refl }; going = tt; rule = record { next = refl; id = refl; is_for = tt }; command = tt },
                          (
                            record { time = omega arith; turn = tt; going = tt; rule = (_, refl, (20000100, record { stays = refl; since = refl }, omega arith)); command = tt },
                            (
                              record { time = refl; turn = refl; going = tt; rule = offers (spot_behind client_of_one (start client_of_one) (take 14 check_late)) 2 (event.Broken alone None) (offered.Accepted false) refl (λ h. record { kind = refl; set_name = refl; max_election = refl; max_set_version = refl; servers = refl }, λ h. refl); command = tt },
                              (
                                record { time = refl; turn = refl; going = tt; rule = (_, refl, tt); command = tt },
                                (
                                  record { time = omega arith; turn = tt; going = tt; rule = (_, refl, (record { stays = refl; rests = refl; due = omega arith }, refl)); command = tt },
                                  (
                                    record { time = refl; turn = record { on = refl; is_for = refl; bytes = refl }; going = tt; rule = record { next = refl; id = refl; is_for = tt }; command = tt },
                                    tt,
                                  ),
                                ),
                              ),
                            ),
                          ),
                        ),
                      ),
                    ),
                  ),
                ),
              ),
            ),
          ),
        ),
      ),
    ),
  ),
)

-- The first entries of a client with one seed, for tests: the seed is named, and a check of it begins.
use Rattle.std.proofs.Common.{◌≡◌, ℕ, List, [], ◌∷◌, length, drop, refl, ap, ◌∙◌, subst, arith}
use Rattle.std.specs.Prelude.{map}
use Rattle.std.specs.List.{IsDistinct}
use Rattle.host_name.specs.Addresses.{Address}
use Rattle.conn_uri.specs.Configurations.{AreSeeds}
use Rattle.desk_trail.specs.declared.entry.Entry.{Entry}
use Rattle.desk_trail.specs.declared.room.Room.{Room}
use Rattle.desk_trail.specs.Clients.{Client}
use Rattle.desk_trail.specs.Facts.{Lists}
use Rattle.desk_trail.specs.Facts as fact
use Rattle.desk_trail.specs.Legal.{InTime, StandsAt, beginning, point_after}
use Rattle.desk_trail.specs.Owed.{InTurn, Owed}
use Rattle.desk_trail.specs.Owed as owed
use Rattle.desk_trail.specs.States.{fresh_server}
use Rattle.legal_trail.specs.Recorded.{Adds, Recorded}

pub AreSeeds-one : (x : Address) → AreSeeds (x ∷ [])
unfolding IsDistinct
AreSeeds-one x = record { some = omega arith; most = omega arith; differ = (tt, tt) }

owed-behind : (hosts : List Address) (seed : Address) → hosts ≡ seed ∷ [] → drop 1 (map (λ a. owed.Named a) hosts) ≡ []
owed-behind hosts seed e = ap (λ hs. drop 1 (map (λ a. owed.Named a) hs)) e

stands : (client : Client) (seed : Address) (stream : ℕ) → client.settings.hosts ≡ seed ∷ [] →
    StandsAt client (point_after client (beginning client) (record { at = 5; what = fact.Named 0 seed })) (record { at = 5; what = fact.CheckBegan 0 stream })
stands client seed stream e = record {
  time = rw (owed-behind client.settings.hosts seed e) (omega arith);
  turn = rw (owed-behind client.settings.hosts seed e) tt;
  going = tt;
  rule = (fresh_server client 5 seed, refl, (record { stays = refl; rests = refl; due = omega arith }, refl));
  command = tt;
}

-- a is the fresh trail, b the one with room, and n the one in which the seed is named
pub check-stands : (client : Client) (seed : Address) (stream : ℕ) (used : Room) (lists : Lists) (e : Entry) (a b n : Recorded) → client.settings.hosts ≡ seed ∷ [] →
    a.client ≡ client → a.point ≡ beginning a.client → b ≡ record a { room = b.room } →
    Adds used lists 5 e (fact.Named (length b.lists.names) seed) b n →
    StandsAt n.client n.point (record { at = 5; what = fact.CheckBegan 0 stream })
check-stands client seed stream used lists e a b n hosts ac ap-now same adds =
    let bc : b.client ≡ client = ap (λ x. x.client) same ∙ ac in
    let bp : b.point ≡ beginning client = ap (λ x. x.point) same ∙ ap-now ∙ ap beginning ac in
    rw (adds.same_client, adds.point_now, bc, bp) (stands client seed stream hosts)

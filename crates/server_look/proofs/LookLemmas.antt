-- A look of a client, by what it goes by.
use std.Path.{fun_ext}
use Rattle.std.proofs.Common.{◌≡◌, ◌≤◌, ℕ, suc, ◌+◌, ◌&&◌, not, Bool, true, false, cond, List, [], ◌∷◌, length, find, Option, None, Some, IsSome, refl, sym, ap, ◌∙◌, subst, nat_le, arith}
use Rattle.std.proofs.lemmas.Bool.{leb-false, leb-true}
use Rattle.std.proofs.lemmas.List.{length-map}
use Rattle.std.proofs.lemmas.List.Elements.{All-contains, All-head, All-tail, All-weaker}
use Rattle.std.specs.FinMap as map
use Rattle.std.specs.List.{All}
use Rattle.std.specs.Option.{option_and_then}
use Rattle.std.specs.Prelude.{slice_get, if◌then◌else◌}
use Rattle.host_name.specs.Addresses.{Address, is_same_address, is_same_address-true}
use Rattle.conn_uri.specs.Configurations.{Configuration}
use Rattle.hello_reply.specs.declared.server_description.ServerDescription.{ServerDescription}
use Rattle.topo_rules.specs.Maps.{ServerMap, StandAtHosts}
use Rattle.topo_rules.specs.Readings.{is_misfit, misfit_of}
use Rattle.server_pick.proofs.LawLemmas.{near_choice}
use Rattle.server_pick.proofs.MapLemmas.{found_at_host}
use Rattle.server_pick.specs.Picks.{chosen_of, picks, told}
use Rattle.server_pick.specs.declared.picked.Picked.{Picked}
use Rattle.server_pick.specs.declared.picked.Picked.TheVariants as picked
use Rattle.desk_trail.specs.declared.entry.LookedHow.{LookedHow}
use Rattle.desk_trail.specs.declared.entry.LookedHow.TheVariants as looked
use Rattle.desk_trail.specs.Clients.{Client}
use Rattle.desk_trail.specs.Looks.{Concludes, deadline, in_flight, load_of}
use Rattle.desk_trail.specs.States.{ClientState, CommandState, ServerState, number_from}
use Rattle.server_look.specs.Inputs.{AreNamed, HasDescription, IsDescribed, IsTimely}
use Rattle.server_look.specs.Loads.{count_at, count_by}
use Rattle.server_look.specs.Told.{HasNumber, Says, TellsOf}

-- ---- What is in flight

counted : (w : ClientState) (counts : List ℕ) (o : Option ℕ) → ((host : ℕ) → count_at counts (Some host) ≡ in_flight w (Some host)) → count_at counts o ≡ in_flight w o
counted w counts None h = refl
counted w counts (Some host) h = h host

-- the loads that a look goes by are the client's
pub loads : (w : ClientState) (servers : List ServerState) (counts : List ℕ) → w.servers ≡ servers → ((host : ℕ) → count_at counts (Some host) ≡ in_flight w (Some host)) →
    count_by servers counts ≡ load_of w
loads w servers counts same h =
    fun_ext (λ a. ap (λ (ss : List ServerState). count_at counts (number_from 0 ss a)) (sym same) ∙ counted w counts (number_from 0 w.servers a) h)

-- ---- Servers that are told

pub values-named : (m : ServerMap) (servers : List ServerState) → StandAtHosts m → AreNamed m servers → All (λ (d : ServerDescription). HasNumber servers d.host) (map.values m)
values-named m servers stand named =
    All-weaker (λ (d : ServerDescription). map.get m d.host ≡ Some d) (λ (d : ServerDescription). HasNumber servers d.host)
    (λ d e. named d.host (subst (λ (o : Option ServerDescription). IsSome o) (sym e) refl)) (map.values m) (found_at_host m stand)

pub values-there : (m : ServerMap) → StandAtHosts m → All (λ (d : ServerDescription). IsSome (map.get m d.host)) (map.values m)
values-there m stand =
    All-weaker (λ (d : ServerDescription). map.get m d.host ≡ Some d) (λ (d : ServerDescription). IsSome (map.get m d.host))
    (λ d e. subst (λ (o : Option ServerDescription). IsSome o) (sym e) refl) (map.values m) (found_at_host m stand)

pub values-count : (m : ServerMap) → length (map.values m) ≡ map.len m
values-count m = length-map (map.entries m) (λ (e : Address × ServerDescription). e.1) ∙ sym (map.len-entries m)

all-find : (P : ServerDescription → Type 0) (p : ServerDescription → Bool) (ds : List ServerDescription) (d : ServerDescription) → All P ds → find p ds ≡ Some d → P d
all-find P p [] d a e = absurd (cc)
all-find P p (x ∷ xs) d a e =
    elim (p x) as (λ b. cond b (Some x) (find p xs) ≡ Some d → P d) [
      | true ↦ λ f. let same : x ≡ d = (cc) in subst P same (All-head P x xs a)
      | false ↦ λ f. all-find P p xs d (All-tail P x xs a) f
    ] e

-- what all servers of the topology and all that were kept have, those have that a selection tells
pub tells : (Q : Address → Type 0) (m : ServerMap) (threshold : ℕ) (kept : List Address) (load : Address → ℕ) (a b : ℕ) →
    All (λ (d : ServerDescription). Q d.host) (map.values m) → All Q kept → TellsOf Q (picks m threshold kept load a b)
tells Q m threshold kept load a b all named = by (misfit_of m) (chosen_of m threshold kept load a b) refl refl
  where
    by : (o : Option ServerDescription) (chosen : Option Address) → misfit_of m ≡ o → chosen_of m threshold kept load a b ≡ chosen → TellsOf Q (told o chosen)
    by (Some d) chosen e f = all-find (λ (x : ServerDescription). Q x.host) is_misfit (map.values m) d all e
    by None None e f = tt
    by None (Some h) e f =
        let is : picks m threshold kept load a b ≡ picked.Chosen h = ap (λ (o : Option ServerDescription). told o (chosen_of m threshold kept load a b)) e ∙ ap (told None) f in
        All-contains Q kept h named (near_choice m threshold kept load a b h is).there

stands_at : Address → ServerState → Bool
stands_at a s = not s.has_left && is_same_address s.address a

second : (left same : Bool) → (not left && same) ≡ true → same ≡ true
second true same h = absurd (cc)
second false same h = h

-- who has a number stands there with that address
record IsAt (servers : List ServerState) (a : Address) (n x : ℕ) : Type 0 where
  place : ℕ
  is : x ≡ n + place
  server : ServerState
  there : slice_get servers place ≡ Some server
  at : server.address ≡ a

found : (n : ℕ) (ss : List ServerState) (a : Address) (x : ℕ) → number_from n ss a ≡ Some x → IsAt ss a n x
found n [] a x h = absurd (cc)
found n (s ∷ ss) a x h =
    elim (not s.has_left && is_same_address s.address a) as (λ b. (not s.has_left && is_same_address s.address a) ≡ b →
    (if b then Some n else number_from (n + 1) ss a) ≡ Some x → IsAt (s ∷ ss) a n x) [
      | true ↦ λ t e.
          let is : n ≡ x = (cc) in
          record { place = 0; is = omega arith; server = s; there = refl; at = is_same_address-true s.address a (second s.has_left (is_same_address s.address a) t) }
      | false ↦ λ t e.
          let f = found (n + 1) ss a x e in
          let is = f.is in
          record { place = suc f.place; is = omega arith; server = f.server; there = f.there; at = f.at }
    ] refl h

has_description : (m : ServerMap) (servers : List ServerState) (a : Address) (host : ℕ) → number_from 0 servers a ≡ Some host → IsSome (map.get m a) → HasDescription m servers host
has_description m servers a host h some =
    let f = found 0 servers a host h in
    let is : f.place ≡ host = let e = f.is in omega arith in
    let there : slice_get servers host ≡ Some f.server = ap (slice_get servers) (sym is) ∙ f.there in
    subst (λ (o : Option ServerState). IsSome (option_and_then (λ (s : ServerState). map.get m s.address) o)) (sym there)
    (subst (λ (b : Address). IsSome (map.get m b)) (sym f.at) some)

pub described : (m : ServerMap) (servers : List ServerState) (p : Picked) (late : Bool) (how : LookedHow) → TellsOf (λ (a : Address). IsSome (map.get m a)) p →
    Says servers p late how → IsDescribed m servers how
described m servers (picked.Chosen a) late (looked.Chosen host) t h = has_description m servers a host h t
described m servers (picked.Incompatible a min max) late (looked.Incompatible host) t h = has_description m servers a host h t
described m servers (picked.Chosen a) late looked.NoneFits t h = tt
described m servers (picked.Chosen a) late looked.Failed t h = tt
described m servers (picked.Chosen a) late (looked.Incompatible host) t h = absurd h
described m servers (picked.Incompatible a min max) late looked.NoneFits t h = tt
described m servers (picked.Incompatible a min max) late looked.Failed t h = tt
described m servers (picked.Incompatible a min max) late (looked.Chosen host) t h = absurd h
described m servers picked.NoneFits late looked.NoneFits t h = tt
described m servers picked.NoneFits late looked.Failed t h = tt
described m servers picked.NoneFits late (looked.Chosen host) t h = absurd h
described m servers picked.NoneFits late (looked.Incompatible host) t h = absurd h
described m servers picked.Memory late how t h = absurd t

-- ---- What it says

-- a look stands in time, of the client's own settings and servers
pub timely-of : (client : Client) (w : ClientState) (settings : Configuration) (servers : List ServerState) (c : CommandState) (moment : ℕ) → client.settings ≡ settings →
    w.servers ≡ servers → IsTimely settings servers c moment → IsTimely client.settings w.servers c moment
timely-of client w settings servers c moment s v h =
    subst (λ (x : Configuration). IsTimely x w.servers c moment) (sym s) (subst (λ (x : List ServerState). IsTimely settings x c moment) (sym v) h)

pub concludes : (client : Client) (w : ClientState) (servers : List ServerState) (c : CommandState) (moment due : ℕ) (p : Picked) (how : LookedHow) → w.servers ≡ servers →
    due ≡ deadline client c moment → IsTimely client.settings w.servers c moment → Says servers p (nat_le due moment) how → Concludes client w c moment p how
concludes client w servers c moment due (picked.Chosen a) (looked.Chosen host) v d t h = ap (λ (ss : List ServerState). number_from 0 ss a) v ∙ h
concludes client w servers c moment due (picked.Incompatible a min max) (looked.Incompatible host) v d t h = ap (λ (ss : List ServerState). number_from 0 ss a) v ∙ h
concludes client w servers c moment due picked.NoneFits looked.NoneFits v d t h = omega (arith, leb-false due moment h, d)
concludes client w servers c moment due picked.NoneFits looked.Failed v d t h =
    let past : deadline client c moment ≤ moment = omega (arith, leb-true due moment h, d) in (past, t past)
concludes client w servers c moment due (picked.Chosen a) looked.NoneFits v d t h = absurd h
concludes client w servers c moment due (picked.Chosen a) looked.Failed v d t h = absurd h
concludes client w servers c moment due (picked.Chosen a) (looked.Incompatible host) v d t h = absurd h
concludes client w servers c moment due (picked.Incompatible a min max) (looked.Chosen host) v d t h = absurd h
concludes client w servers c moment due (picked.Incompatible a min max) looked.NoneFits v d t h = absurd h
concludes client w servers c moment due (picked.Incompatible a min max) looked.Failed v d t h = absurd h
concludes client w servers c moment due picked.NoneFits (looked.Chosen host) v d t h = absurd h
concludes client w servers c moment due picked.NoneFits (looked.Incompatible host) v d t h = absurd h
concludes client w servers c moment due picked.Memory how v d t h = absurd h

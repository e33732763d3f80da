-- What entries leave of where servers stand, and which number that is.
use Rattle.std.proofs.Common.{◌≡◌, ◌<◌, ℕ, zero, suc, ◌+◌, Bool, true, false, not, ◌&&◌, List, [], ◌∷◌, map, length, Option, None, Some, IsSome, refl, sym, ap, ◌∙◌, subst, arith}
use Rattle.std.specs.Prelude.{slice_get, if◌then◌else◌}
use Rattle.std.specs.Option.{option_map}
use Rattle.host_name.specs.Addresses.{Address, is_same_address, is_same_address-same, is_same_address-true}
use Rattle.desk_trail.specs.declared.entry.CheckHow.{CheckHow}
use Rattle.desk_trail.specs.declared.entry.CheckHow.TheVariants as how
use Rattle.desk_trail.specs.declared.entry.LookedHow.{LookedHow}
use Rattle.desk_trail.specs.declared.entry.LookedHow.TheVariants as looked
use Rattle.desk_trail.specs.declared.request.Purpose.{Purpose}
use Rattle.desk_trail.specs.declared.request.Purpose.TheVariants as purpose
use Rattle.desk_trail.specs.Attempts.{OfCommand, asked_by, command_step, commands_after}
use Rattle.watch_step.specs.Entries as check
use Rattle.desk_trail.specs.Checks.{asked, check_begins, check_ends, is_known_at, kept_at, stream_taken, with_checks}
use Rattle.desk_trail.specs.Clients.{Client}
use Rattle.desk_trail.specs.Facts.{Fact}
use Rattle.desk_trail.specs.Facts as fact
use Rattle.desk_trail.specs.Legal.{changed_by, client_after, ends_by, pool_after, stays_at}
use Rattle.desk_trail.specs.Looks.{look_asks}
use Rattle.desk_trail.specs.Pools.{OfHost, check_out_after, conn_streams_after, pool_step, pools_after, with_pool}
use Rattle.desk_trail.specs.Requests.{farewell_by}
use Rattle.desk_trail.specs.States.{ClientState, ServerState, number_from, with_server}
use Rattle.trail_laws.proofs.ListLemmas.{changed-keeps}
use Rattle.trail_laws.proofs.OwedLemmas.{is_plain}

-- whether a server left, and its address
abbrev pub standing_of : Option ServerState → Option (Bool × Address)
standing_of o = option_map (λ (s : ServerState). (s.has_left, s.address)) o

abbrev pub standing_at : ClientState → ℕ → Option (Bool × Address)
standing_at w y = standing_of (slice_get w.servers y)

-- a change of one server keeps that
kept-by : (w : ClientState) (host : ℕ) (f : ServerState → ServerState) (y : ℕ) → ((s : ServerState) → standing_of (Some (f s)) ≡ standing_of (Some s)) →
    standing_at (with_server w host f) y ≡ standing_at w y
kept-by w host f y keeps = changed-keeps standing_of w.servers host y f keeps

same-servers : (w v : ClientState) (y : ℕ) → v.servers ≡ w.servers → standing_at v y ≡ standing_at w y
same-servers w v y e = ap (λ ss. standing_of (slice_get ss y)) e

-- ---- Entries of pools

check_out-servers : (moment : ℕ) (w : ClientState) (f : Fact) → (check_out_after moment w f).servers ≡ w.servers
check_out-servers moment w (fact.Entered op host ticket) = refl
check_out-servers moment w (fact.Lent op host conn) = refl
check_out-servers moment w (fact.Dialled op host conn stream) = refl
check_out-servers moment w (fact.NotLent op host why) = refl
check_out-servers moment w (fact.CheckedIn op host conn errored) = refl
check_out-servers moment w f = refl

streams-kept : (w : ClientState) (f : Fact) (y : ℕ) → standing_at (conn_streams_after w f) y ≡ standing_at w y
streams-kept w (fact.Dialled op host conn (Some stream)) y =
    kept-by (record w { streams = stream ∷ w.streams }) host (λ s. record s { conn_streams = record { conn = conn; stream = stream } ∷ s.conn_streams }) y (λ s. refl)
streams-kept w (fact.Dialled op host conn None) y = refl
streams-kept w f y = refl

pools-kept : (w : ClientState) (moment : ℕ) (o : Option OfHost) (y : ℕ) → standing_at (pools_after w moment o) y ≡ standing_at w y
pools-kept w moment None y = refl
pools-kept w moment (Some e) y = kept-by w e.0 (with_pool moment e.1) y (λ s. refl)

pool-kept : (w : ClientState) (moment : ℕ) (f : Fact) (y : ℕ) → standing_at (pool_after w moment f) y ≡ standing_at w y
pool-kept w moment f y =
    let v = pools_after w moment (pool_step w f) in
    let u = conn_streams_after v f in
    same-servers u (check_out_after moment u f) y (check_out-servers moment u f) ∙ streams-kept v f y ∙ pools-kept w moment (pool_step w f) y

ends-kept : (host : ℕ) (w v : ClientState) (y : ℕ) → standing_at (ends_by host w v) y ≡ standing_at v y
ends-kept host w v y = by (stays_at (slice_get w.servers host))
  where
    by : (b : Bool) → standing_at (if b then record v { is_ending = true } else v) y ≡ standing_at v y
    by true = refl
    by false = refl

-- ---- Entries of checks and looks

taken-servers : (o : Option ℕ) (stream : ℕ) (w : ClientState) → (stream_taken o stream w).servers ≡ w.servers
taken-servers None stream w = refl
taken-servers (Some kept) stream w = refl

end-keeps : (moment : ℕ) (h : CheckHow) (known : Bool) (s : ServerState) → standing_of (Some (check_ends moment h known s)) ≡ standing_of (Some s)
end-keeps moment (how.Reply sample) known s = refl
end-keeps moment (how.Refused code) known s = refl
end-keeps moment how.Cut known s = refl
end-keeps moment how.Fault known s = refl
end-keeps moment how.Late known s = refl
end-keeps moment (how.Bad at) known s = refl
end-keeps moment how.NoDial known s = refl

pub asked-keeps : (moment : ℕ) (s : ServerState) → standing_of (Some (asked moment s)) ≡ standing_of (Some s)
asked-keeps moment s = by s.has_left
  where
    by : (b : Bool) → standing_of (Some (if b then s else with_checks moment check.Asked s)) ≡ standing_of (Some s)
    by true = refl
    by false = refl

map-keeps : (f : ServerState → ServerState) → ((s : ServerState) → standing_of (Some (f s)) ≡ standing_of (Some s)) → (ss : List ServerState) (y : ℕ) →
    standing_of (slice_get (map f ss) y) ≡ standing_of (slice_get ss y)
map-keeps f keeps [] y = refl
map-keeps f keeps (s ∷ ss) zero = keeps s
map-keeps f keeps (s ∷ ss) (suc y) = map-keeps f keeps ss y

look-kept : (moment : ℕ) (h : LookedHow) (w : ClientState) (y : ℕ) → standing_at (look_asks moment h w) y ≡ standing_at w y
look-kept moment looked.NoneFits w y = map-keeps (asked moment) (asked-keeps moment) w.servers y
look-kept moment (looked.Chosen host) w y = refl
look-kept moment looked.Failed w y = refl
look-kept moment (looked.Incompatible host) w y = refl

-- ---- Requests

asked_by-servers : (moment : ℕ) (p : Purpose) (w : ClientState) → (asked_by moment p w).servers ≡ w.servers
asked_by-servers moment (purpose.Command op) w = refl
asked_by-servers moment (purpose.Check host) w = refl
asked_by-servers moment (purpose.Greeting host conn) w = refl
asked_by-servers moment purpose.Farewell w = refl

farewell-servers : (p : Purpose) (stream : ℕ) (w : ClientState) → (farewell_by p stream w).servers ≡ w.servers
farewell-servers (purpose.Command op) stream w = refl
farewell-servers (purpose.Check host) stream w = refl
farewell-servers (purpose.Greeting host conn) stream w = refl
farewell-servers purpose.Farewell stream w = refl

-- ---- All that name no host, drop none and offer nothing

changed-kept : (client : Client) (moment : ℕ) (w : ClientState) (f : Fact) (y : ℕ) → is_plain f ≡ true → standing_at (changed_by client moment w f) y ≡ standing_at w y
changed-kept client moment w (fact.Named host address) y q = absurd (cc)
changed-kept client moment w (fact.Dropped host) y q = absurd (cc)
changed-kept client moment w (fact.Offered place event taken) y q = absurd (cc)
changed-kept client moment w (fact.Time stamp) y q = absurd (cc)
changed-kept client moment w (fact.PoolReady host) y q = pool-kept w moment (fact.PoolReady host) y
changed-kept client moment w (fact.PoolClear host) y q = pool-kept w moment (fact.PoolClear host) y
changed-kept client moment w (fact.PoolShut host) y q = ends-kept host w (pool_after w moment (fact.PoolShut host)) y ∙ pool-kept w moment (fact.PoolShut host) y
changed-kept client moment w (fact.CheckBegan host stream) y q =
    let v = stream_taken (kept_at w host) stream w in
    kept-by v host (check_begins moment stream) y (λ s. refl) ∙ same-servers w v y (taken-servers (kept_at w host) stream w)
changed-kept client moment w (fact.CheckDry host) y q = kept-by w host (λ s. record s { dry = Some moment }) y (λ s. refl)
changed-kept client moment w (fact.CheckEnded host h) y q = kept-by w host (check_ends moment h (is_known_at w host)) y (end-keeps moment h (is_known_at w host))
changed-kept client moment w (fact.Looked op a b kept picked) y q = look-kept moment picked w y
changed-kept client moment w (fact.Entered op host ticket) y q = pool-kept w moment (fact.Entered op host ticket) y
changed-kept client moment w (fact.Lent op host conn) y q = pool-kept w moment (fact.Lent op host conn) y
changed-kept client moment w (fact.Dialled op host conn stream) y q = pool-kept w moment (fact.Dialled op host conn stream) y
changed-kept client moment w (fact.Settled op host conn stale) y q = pool-kept w moment (fact.Settled op host conn stale) y
changed-kept client moment w (fact.NotLent op host why) y q = pool-kept w moment (fact.NotLent op host why) y
changed-kept client moment w (fact.CheckedIn op host conn errored) y q = pool-kept w moment (fact.CheckedIn op host conn errored) y
changed-kept client moment w (fact.ConnShut host conn reason) y q = pool-kept w moment (fact.ConnShut host conn reason) y
changed-kept client moment w (fact.Asked place r) y q =
    let v : ClientState = record w { requests = w.requests + 1 } in
    let u = farewell_by r.purpose r.stream v in
    same-servers w (asked_by moment r.purpose u) y (asked_by-servers moment r.purpose u ∙ farewell-servers r.purpose r.stream v)
changed-kept client moment w f y q = refl

pub events-kept : (o : Option OfCommand) (v : ClientState) → (commands_after o v).servers ≡ v.servers
events-kept None v = refl
events-kept (Some e) v = refl

pub plain-kept : (client : Client) (moment : ℕ) (w : ClientState) (f : Fact) (y : ℕ) → is_plain f ≡ true → standing_at (client_after client moment w f) y ≡ standing_at w y
plain-kept client moment w f y q =
    let v = changed_by client moment w f in
    same-servers v (commands_after (command_step client w f) v) y (events-kept (command_step client w f) v) ∙ changed-kept client moment w f y q

-- ---- They leave the topology as it is

check_out-topology : (moment : ℕ) (w : ClientState) (f : Fact) → (check_out_after moment w f).topology ≡ w.topology
check_out-topology moment w (fact.Entered op host ticket) = refl
check_out-topology moment w (fact.Lent op host conn) = refl
check_out-topology moment w (fact.Dialled op host conn stream) = refl
check_out-topology moment w (fact.NotLent op host why) = refl
check_out-topology moment w (fact.CheckedIn op host conn errored) = refl
check_out-topology moment w f = refl

streams-topology : (w : ClientState) (f : Fact) → (conn_streams_after w f).topology ≡ w.topology
streams-topology w (fact.Dialled op host conn (Some stream)) = refl
streams-topology w (fact.Dialled op host conn None) = refl
streams-topology w f = refl

pools-topology : (w : ClientState) (moment : ℕ) (o : Option OfHost) → (pools_after w moment o).topology ≡ w.topology
pools-topology w moment None = refl
pools-topology w moment (Some e) = refl

pool-topology : (w : ClientState) (moment : ℕ) (f : Fact) → (pool_after w moment f).topology ≡ w.topology
pool-topology w moment f =
    let v = pools_after w moment (pool_step w f) in
    check_out-topology moment (conn_streams_after v f) f ∙ streams-topology v f ∙ pools-topology w moment (pool_step w f)

ends-topology : (host : ℕ) (w v : ClientState) → (ends_by host w v).topology ≡ v.topology
ends-topology host w v = by (stays_at (slice_get w.servers host))
  where
    by : (b : Bool) → (if b then record v { is_ending = true } else v).topology ≡ v.topology
    by true = refl
    by false = refl

taken-topology : (o : Option ℕ) (stream : ℕ) (w : ClientState) → (stream_taken o stream w).topology ≡ w.topology
taken-topology None stream w = refl
taken-topology (Some kept) stream w = refl

look-topology : (moment : ℕ) (h : LookedHow) (w : ClientState) → (look_asks moment h w).topology ≡ w.topology
look-topology moment looked.NoneFits w = refl
look-topology moment (looked.Chosen host) w = refl
look-topology moment looked.Failed w = refl
look-topology moment (looked.Incompatible host) w = refl

asked_by-topology : (moment : ℕ) (p : Purpose) (w : ClientState) → (asked_by moment p w).topology ≡ w.topology
asked_by-topology moment (purpose.Command op) w = refl
asked_by-topology moment (purpose.Check host) w = refl
asked_by-topology moment (purpose.Greeting host conn) w = refl
asked_by-topology moment purpose.Farewell w = refl

farewell-topology : (p : Purpose) (stream : ℕ) (w : ClientState) → (farewell_by p stream w).topology ≡ w.topology
farewell-topology (purpose.Command op) stream w = refl
farewell-topology (purpose.Check host) stream w = refl
farewell-topology (purpose.Greeting host conn) stream w = refl
farewell-topology purpose.Farewell stream w = refl

changed-topology : (client : Client) (moment : ℕ) (w : ClientState) (f : Fact) → is_plain f ≡ true → (changed_by client moment w f).topology ≡ w.topology
changed-topology client moment w (fact.Offered place event taken) q = absurd (cc)
changed-topology client moment w (fact.PoolReady host) q = pool-topology w moment (fact.PoolReady host)
changed-topology client moment w (fact.PoolClear host) q = pool-topology w moment (fact.PoolClear host)
changed-topology client moment w (fact.PoolShut host) q = ends-topology host w (pool_after w moment (fact.PoolShut host)) ∙ pool-topology w moment (fact.PoolShut host)
changed-topology client moment w (fact.CheckBegan host stream) q = taken-topology (kept_at w host) stream w
changed-topology client moment w (fact.Looked op a b kept picked) q = look-topology moment picked w
changed-topology client moment w (fact.Entered op host ticket) q = pool-topology w moment (fact.Entered op host ticket)
changed-topology client moment w (fact.Lent op host conn) q = pool-topology w moment (fact.Lent op host conn)
changed-topology client moment w (fact.Dialled op host conn stream) q = pool-topology w moment (fact.Dialled op host conn stream)
changed-topology client moment w (fact.Settled op host conn stale) q = pool-topology w moment (fact.Settled op host conn stale)
changed-topology client moment w (fact.NotLent op host why) q = pool-topology w moment (fact.NotLent op host why)
changed-topology client moment w (fact.CheckedIn op host conn errored) q = pool-topology w moment (fact.CheckedIn op host conn errored)
changed-topology client moment w (fact.ConnShut host conn reason) q = pool-topology w moment (fact.ConnShut host conn reason)
changed-topology client moment w (fact.Asked place r) q =
    let v : ClientState = record w { requests = w.requests + 1 } in
    asked_by-topology moment r.purpose (farewell_by r.purpose r.stream v) ∙ farewell-topology r.purpose r.stream v
changed-topology client moment w f q = refl

events-topology : (o : Option OfCommand) (v : ClientState) → (commands_after o v).topology ≡ v.topology
events-topology None v = refl
events-topology (Some e) v = refl

pub plain-topology : (client : Client) (moment : ℕ) (w : ClientState) (f : Fact) → is_plain f ≡ true → (client_after client moment w f).topology ≡ w.topology
plain-topology client moment w f q = events-topology (command_step client w f) (changed_by client moment w f) ∙ changed-topology client moment w f q

-- ---- Numbers

abbrev part-of : {B : Type 0} → (Bool × Address → B) → B → Option (Bool × Address) → B
part-of f b None = b
part-of f b (Some p) = f p

pub first-of : (p q : Bool × Address) → Some p ≡ Some q → p.0 ≡ q.0
first-of p q h = ap (part-of (λ (x : Bool × Address). x.0) p.0) h

pub second-of : (p q : Bool × Address) → Some p ≡ Some q → p.1 ≡ q.1
second-of p q h = ap (part-of (λ (x : Bool × Address). x.1) p.1) h

-- where a server stands with an address, the address has a number
pub number-there : (n : ℕ) (ss : List ServerState) (a : Address) (y : ℕ) → standing_of (slice_get ss y) ≡ Some (false, a) → IsSome (number_from n ss a)
number-there n [] a y h = absurd (cc)
number-there n (s ∷ ss) a zero h =
    let left : s.has_left ≡ false = first-of (s.has_left, s.address) (false, a) h in
    let same : s.address ≡ a = second-of (s.has_left, s.address) (false, a) h in
    let here : (not s.has_left && is_same_address s.address a) ≡ true = ap (λ b. not b && is_same_address s.address a) left ∙ is_same_address-same s.address a same in
    subst (λ (b : Bool). IsSome (if b then Some n else number_from (n + 1) ss a)) (sym here) refl
number-there n (s ∷ ss) a (suc y) h = by (not s.has_left && is_same_address s.address a) (number-there (n + 1) ss a y h)
  where
    by : (b : Bool) → IsSome (number_from (n + 1) ss a) → IsSome (if b then Some n else number_from (n + 1) ss a)
    by true later = refl
    by false later = later

-- the server of a number stands with that address
pub record IsNumbered (n : ℕ) (ss : List ServerState) (a : Address) (x : ℕ) : Type 0 where
  pub place : ℕ
  pub is : x ≡ n + place
  pub there : standing_of (slice_get ss place) ≡ Some (false, a)
  pub within : place < length ss

stays_if : (left same : Bool) → (not left && same) ≡ true → left ≡ false
stays_if true same h = absurd (cc)
stays_if false same h = refl

same_if : (left same : Bool) → (not left && same) ≡ true → same ≡ true
same_if true same h = absurd (cc)
same_if false same h = h

pub numbered : (n : ℕ) (ss : List ServerState) (a : Address) (x : ℕ) → number_from n ss a ≡ Some x → IsNumbered n ss a x
numbered n [] a x h = absurd (cc)
numbered n (s ∷ ss) a x h = by (not s.has_left && is_same_address s.address a) refl (numbered (n + 1) ss a x) h
  where
    by : (b : Bool) → (not s.has_left && is_same_address s.address a) ≡ b → (number_from (n + 1) ss a ≡ Some x → IsNumbered (n + 1) ss a x) →
        (if b then Some n else number_from (n + 1) ss a) ≡ Some x → IsNumbered n (s ∷ ss) a x
    by true e later is =
        let left = stays_if s.has_left (is_same_address s.address a) e in
        let same = is_same_address-true s.address a (same_if s.has_left (is_same_address s.address a) e) in
        let first : n ≡ x = (cc) in
        record {
          place = 0;
          is = omega (arith, first);
          there = ap (λ b. let p : Bool × Address = (b, s.address) in Some p) left ∙ ap (λ b. let p : Bool × Address = (false, b) in Some p) same;
          within = omega arith;
        }
    by false e later is =
        let f = later is in
        let more = f.is in
        let few = f.within in
        record { place = suc f.place; is = omega (arith, more); there = f.there; within = omega (arith, few) }

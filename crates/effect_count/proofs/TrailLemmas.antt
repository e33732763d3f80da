-- What holds of each stream along a legal trail.
use Rattle.std.proofs.Common.{◌≡◌, ◌≤◌, ℕ, false, ◌||◌, List, [], ◌∷◌, ◌++◌, Option, None, Some, refl, sym, ap, ◌∙◌, subst, arith}
use Rattle.std.specs.Prelude.{slice_get}
use Rattle.std.specs.Option.{option_map}
use Rattle.std.proofs.lemmas.List.{append-nil, append_assoc}
use Rattle.std.proofs.lemmas.Option.{slice_get-map}
use Rattle.entry_judge.specs.declared.timed.Timed.{Timed}
use Rattle.entry_judge.specs.Groups.{Place, next_place, nothing_owed}
use Rattle.entry_judge.specs.Judge.{Legal, state_after}
use Rattle.entry_judge.specs.LegalLaws.{Legal-append, state_after-append}
use Rattle.pool_book.specs.Entries.{PoolEntry}
use Rattle.pool_book.specs.Judge.{IsTrail, place_behind, pool_judge}
use Rattle.pool_book.specs.Pool.{Pool, fresh_pool}
use Rattle.pool_book.specs.Sound.{times_held}
use Rattle.cmd_build.specs.declared.command.Command.{Command}
use Rattle.desk_trail.specs.Clients.{Client, pool_rules}
use Rattle.desk_trail.specs.Facts.{Fact}
use Rattle.desk_trail.specs.Holds.{HasAt}
use Rattle.desk_trail.specs.Legal.{AreLegal, Point, StandsAt, beginning, point_after, point_behind}
use Rattle.desk_trail.specs.Parts.{pool_part, pool_tells, told_from}
use Rattle.desk_trail.specs.Pools.{pool_step}
use Rattle.desk_trail.specs.States.{CommandState, Has, Nothing, ServerState, fresh_command}
use Rattle.desk_trail.specs.Streams.{account}
use Rattle.request_keys.specs.Requests.{requests_in, requests_on}
use Rattle.effect_count.specs.Counts.{asked_on, asks_at, begins_check, has_checks}
use Rattle.effect_count.proofs.AccountLemmas.{account-begins, account-with, asked-with, checks-with}
use Rattle.effect_count.proofs.KeepLemmas.{Keeps, Step, keeps-step}
use Rattle.effect_count.proofs.MoveLemmas.{AtPools, pool_next}
use Rattle.effect_count.proofs.OwedLemmas.{greets-named, is_mild, is_no_return, mild, named-pass, no-return, not-among, ordered-mild}
use Rattle.effect_count.proofs.PhaseLemmas.{Phase, fresh, phase-asks, phase-fresh, phase-same, phase-step}
use Rattle.effect_count.proofs.PoolLemmas.{lent-times, pool-of}
use Rattle.effect_count.proofs.UseLemmas.{uses-begins}

-- ---- What the laws of desk_trail say at each place

abbrev pub PoolTrails : Type 0
PoolTrails = (client : Client) (ts : List (Timed Fact)) (host : ℕ) → AreLegal client ts → IsTrail (pool_rules client) (pool_part client host ts)

abbrev pub PoolPlaces : Type 0
PoolPlaces = (client : Client) (ts : List (Timed Fact)) (host : ℕ) (s : ServerState) → AreLegal client ts → slice_get (point_behind client ts).state.servers host ≡ Some s →
    s.pool ≡ place_behind (pool_rules client) (pool_part client host ts)

abbrev pub AreWhere : Type 0
AreWhere = (client : Client) (ts : List (Timed Fact)) (op : ℕ) (c : CommandState) (host ticket conn : ℕ) → AreLegal client ts → slice_get (point_behind client ts).state.commands op ≡ Some c →
    c.check_out ≡ Has host ticket conn → HasAt (point_behind client ts).state host ticket conn

abbrev pub OneBorrower : Type 0
OneBorrower = (client : Client) (ts : List (Timed Fact)) (a b : ℕ) (x y : CommandState) (host s t conn : ℕ) → AreLegal client ts → slice_get (point_behind client ts).state.commands a ≡ Some x →
    slice_get (point_behind client ts).state.commands b ≡ Some y → x.check_out ≡ Has host s conn → y.check_out ≡ Has host t conn → a ≡ b

pub record Known : Type 0 where
  pub trails : PoolTrails
  pub places : PoolPlaces
  pub where_held : AreWhere
  pub one : OneBorrower

abbrev pools_at : Client → List (Timed Fact) → ℕ → Place Pool PoolEntry
pools_at client ts host = place_behind (pool_rules client) (pool_part client host ts)

at-pools : Known → (client : Client) (ts : List (Timed Fact)) → AreLegal client ts → AtPools (point_behind client ts).state (pools_at client ts)
at-pools k client ts l = record {
  are = λ host s there. k.places client ts host s l there;
  whole = λ host. pool-of (pool_rules client) (pool_part client host ts) (pools_at client ts host) (k.trails client ts host l) refl;
  lent = λ op c host ticket conn there out.
      let h = k.where_held client ts op c host ticket conn l there out in
      subst (λ (q : Place Pool PoolEntry). 1 ≤ times_held conn q.state.lent) (k.places client ts host h.server l h.there) (lent-times h.server.pool.state conn h.lent.held h.lent.found);
  one = λ a b x y host s t conn i j e f. k.one client ts a b x y host s t conn l i j e f;
}

-- ---- The pools behind one entry more

told-with : {A : Type 0} (client : Client) (tells : Point → Timed Fact → List A) (p : Point) (xs : List (Timed Fact)) (t : Timed Fact) →
    told_from client tells p (xs ++ t ∷ []) ≡ told_from client tells p xs ++ tells (state_after (point_after client) p xs) t
told-with client tells p [] t = append-nil (tells p t)
told-with client tells p (x ∷ xs) t =
    ap (λ l. tells p x ++ l) (told-with client tells (point_after client p x) xs t)
    ∙ sym (append_assoc (tells p x) (told_from client tells (point_after client p x) xs) (tells (state_after (point_after client) (point_after client p x) xs) t))

pools-with : (client : Client) (ts : List (Timed Fact)) (t : Timed Fact) (y : ℕ) →
    pools_at client (ts ++ t ∷ []) y ≡ pool_next (pools_at client ts y) y t.at (pool_step (point_behind client ts).state t.what)
pools-with client ts t y =
    ap (place_behind (pool_rules client)) (told-with client (pool_tells y) (beginning client) ts t)
    ∙ state_after-append (next_place pool_judge) (nothing_owed (fresh_pool (pool_rules client))) (pool_part client y ts) (pool_tells y (point_behind client ts) t)

-- ---- What holds at a place

record Holds (client : Client) (ts : List (Timed Fact)) (p : Point) (s : ℕ) : Type 0 where
  pub keeps : Keeps p (pools_at client ts) s (account client s ts)
  pub phase : Phase p.state s (account client s ts) (asked_on ts s) (has_checks ts s)

-- at the beginning
none-in : (o : Option Command) (c : CommandState) → option_map fresh_command o ≡ Some c → c.check_out ≡ Nothing
none-in None c e = absurd (cc)
none-in (Some x) c e =
    let same : fresh_command x ≡ c = (cc) in
    ap (λ (y : CommandState). y.check_out) (sym same)

none-out : (client : Client) (op : ℕ) (c : CommandState) (host ticket conn : ℕ) → slice_get (beginning client).state.commands op ≡ Some c → c.check_out ≡ Has host ticket conn → ⊥
none-out client op c host ticket conn there out =
    let none = none-in (slice_get client.commands op) c (sym (slice_get-map fresh_command client.commands op) ∙ there) in
    let wrong : Nothing ≡ Has host ticket conn = sym none ∙ out in
    absurd (cc)

holds-begins : (client : Client) (s : ℕ) → Holds client [] (beginning client) s
holds-begins client s = record {
  keeps = record {
    uses = uses-begins client;
    ordered = ordered-mild (beginning client).owed (named-pass is_mild mild client.settings.hosts);
    counts = λ y. omega arith;
    greets = greets-named _ client.settings.hosts;
    rest = λ op c e i there. absurd (not-among op e (beginning client).owed (named-pass is_no_return no-return client.settings.hosts) i);
    past = λ op c host ticket conn there out. absurd (none-out client op c host ticket conn there out);
    given = λ op c host ticket conn there out at i. absurd (none-out client op c host ticket conn there out);
    sent = λ going op c host ticket conn there out at send. absurd (none-out client op c host ticket conn there out);
    lent = λ host conn n at i. absurd i;
    available = λ host conn at i. absurd (omega (arith, i));
  };
  phase = fresh refl (ap requests_in (account-begins client s)) refl;
}

-- behind one entry more
holds-step : Known → (client : Client) (xs : List (Timed Fact)) (t : Timed Fact) (s : ℕ) → AreLegal client xs → AreLegal client (xs ++ t ∷ []) → StandsAt client (point_behind client xs) t →
    Holds client xs (point_behind client xs) s → Holds client (xs ++ t ∷ []) (point_after client (point_behind client xs) t) s
holds-step k client xs t s l all stands h = record {
  keeps = keeps-step client p t.at t.what (pools_at client xs) (pools_at client (xs ++ t ∷ [])) s (account client s xs) (account client s (xs ++ t ∷ [])) step h.keeps;
  phase = subst (λ c. Phase q.state s (account client s (xs ++ t ∷ [])) (asked_on (xs ++ t ∷ []) s) c) (sym (checks-with xs t s))
      (subst (λ rs. Phase q.state s (account client s (xs ++ t ∷ [])) rs (has_checks xs s || begins_check s t.what)) (sym (asked-with xs t s))
      (phase-step client p t.at t.what (pools_at client xs) (pools_at client (xs ++ t ∷ [])) s (account client s xs) (account client s (xs ++ t ∷ [])) step h.keeps
      (asked_on xs s) (has_checks xs s) h.phase));
}
  where
    p : Point
    p = point_behind client xs

    q : Point
    q = point_after client p t

    to : point_behind client (xs ++ t ∷ []) ≡ point_after client (point_behind client xs) t
    to = state_after-append (point_after client) (beginning client) xs (t ∷ [])

    step : Step client (point_behind client xs) t.at t.what (pools_at client xs) (pools_at client (xs ++ t ∷ [])) s (account client s xs) (account client s (xs ++ t ∷ []))
    step = record {
      rule = stands.rule;
      turn = stands.turn;
      going = stands.going;
      command = stands.command;
      at = at-pools k client xs l;
      behind = subst (λ (z : Point). AtPools z.state (pools_at client (xs ++ t ∷ []))) to (at-pools k client (xs ++ t ∷ []) all);
      pools = λ y. pools-with client xs t y;
      tells = account-with client s xs t;
      fresh = λ n. phase-fresh (point_behind client xs).state s (account client s xs) (asked_on xs s) (has_checks xs s) h.phase n;
    }

-- ---- Each place

holds-from : Known → (client : Client) (s : ℕ) (xs ys : List (Timed Fact)) → AreLegal client xs → Legal (StandsAt client) (point_after client) (point_behind client xs) ys →
    Holds client xs (point_behind client xs) s → Holds client (xs ++ ys) (point_behind client (xs ++ ys)) s
holds-from k client s xs [] l m h = subst (λ ts. Holds client ts (point_behind client ts) s) (sym (append-nil xs)) h
holds-from k client s xs (y ∷ ys) l m h =
    let p = point_behind client xs in
    let to : point_behind client (xs ++ y ∷ []) ≡ point_after client p y = state_after-append (point_after client) (beginning client) xs (y ∷ []) in
    let all : AreLegal client (xs ++ y ∷ []) = Legal-append (StandsAt client) (point_after client) (beginning client) xs (y ∷ []) l (m.0, tt) in
    subst (λ ts. Holds client ts (point_behind client ts) s) (append_assoc xs (y ∷ []) ys)
    (holds-from k client s (xs ++ y ∷ []) ys all
    (subst (λ q. Legal (StandsAt client) (point_after client) q ys) (sym to) m.1)
    (subst (λ q. Holds client (xs ++ y ∷ []) q s) (sym to) (holds-step k client xs y s l all m.0 h)))

holds : Known → (client : Client) (ts : List (Timed Fact)) (s : ℕ) → AreLegal client ts → Holds client ts (point_behind client ts) s
holds k client ts s l = holds-from k client s [] ts tt l (holds-begins client s)

-- ---- The law

pub same-requests : Known → (client : Client) (facts : List (Timed Fact)) (stream : ℕ) → AreLegal client facts → has_checks facts stream ≡ false →
    requests_on client facts stream ≡ asked_on facts stream
same-requests k client facts stream l none =
    phase-same (point_behind client facts).state stream (account client stream facts) (asked_on facts stream) (has_checks facts stream) (holds k client facts stream l).phase none

pub same-commands : Known → (client : Client) (facts : List (Timed Fact)) (stream nth op : ℕ) → AreLegal client facts →
    asks_at (requests_on client facts stream) nth op ≡ asks_at (asked_on facts stream) nth op
same-commands k client facts stream nth op l =
    phase-asks (point_behind client facts).state stream (account client stream facts) (asked_on facts stream) (has_checks facts stream) nth op (holds k client facts stream l).phase

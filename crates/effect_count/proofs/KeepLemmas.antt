-- On a stream of a connection nothing waits where a request may be asked: where the connection is available, where it is lent and its
-- command is to send, and where its hello must come next.
use Rattle.std.proofs.Common.{◌≡◌, ◌≤◌, ◌⊎◌, inl, inr, ℕ, ◌+◌, Bool, true, false, ◌||◌, List, [], ◌∷◌, ◌++◌, length, Option, None, Some, refl, sym, ap, ◌∙◌, subst, arith}
use Rattle.std.specs.Prelude.{nat_eq, slice_get, if◌then◌else◌}
use Rattle.std.specs.List.{list_any}
use Rattle.std.specs.Option.{option_and_then, option_map}
use Rattle.std.proofs.lemmas.Bool.{eq-eqb}
use Rattle.std.proofs.lemmas.List.Folds.{list_any-append}
use Rattle.entry_judge.specs.Groups.{Place, next_place}
use Rattle.pool_book.specs.Entries.{PoolEntry}
use Rattle.pool_book.specs.Entries as pool
use Rattle.pool_book.specs.Judge.{pool_judge}
use Rattle.pool_book.specs.Pool.{Pool}
use Rattle.pool_book.specs.Sound.{times_available, times_held}
use Rattle.write_retry.specs.Machine.{allows}
use Rattle.write_retry.specs.Machine as machine
use Rattle.write_retry.specs.Verdict.{again, said}
use Rattle.write_retry.specs.declared.attempt_end.AttemptEnd.{AttemptEnd}
use Rattle.write_retry.specs.declared.attempt_end.AttemptEnd.TheVariants as attempt
use Rattle.write_retry.specs.declared.events.Next.{Next}
use Rattle.write_retry.specs.declared.events.Next.TheVariants as next
use Rattle.write_retry.specs.declared.events.OpEvent.{OpEvent}
use Rattle.write_retry.specs.declared.events.OpEvent.TheVariants as event
use Rattle.write_retry.specs.declared.events.Unsent.TheVariants as unsent
use Rattle.desk_trail.specs.declared.request.Purpose.{Purpose}
use Rattle.desk_trail.specs.declared.request.Purpose.TheVariants as purpose
use Rattle.desk_trail.specs.declared.request.Request.{Request}
use Rattle.desk_trail.specs.Attempts.{CommandAllows, asked_by, asked_event, command_step, commands_after, end_event, endpoint_at}
use Rattle.desk_trail.specs.Checks.{IsNew, check_begins, kept_at, stream_kept, stream_taken}
use Rattle.desk_trail.specs.Clients.{Client}
use Rattle.desk_trail.specs.Facts.{Fact}
use Rattle.desk_trail.specs.Facts as fact
use Rattle.desk_trail.specs.Legal.{IsLast, MayGoOn, MayStand, Point, client_after, owes, point_after, pool_after, stays_at}
use Rattle.desk_trail.specs.Orders.{asks_for, is_time}
use Rattle.desk_trail.specs.Owed.{InTurn, Owed, left_owed}
use Rattle.desk_trail.specs.Owed as owed
use Rattle.desk_trail.specs.Pools.{has_by, pool_step}
use Rattle.desk_trail.specs.Requests.{IsAsked, IsFarewell, IsFor, IsRequestOf, farewell_by}
use Rattle.desk_trail.specs.States.{CheckOut, ClientState, CommandState, Dials, Has, Nothing, ServerState, Waits, host_held, stream_of}
use Rattle.desk_trail.specs.Streams.{Account, conn_stream_at, held_stream, mention_of, stream_at, with_mention}
use Rattle.desk_trail.specs.Streams as told
use Rattle.effect_count.proofs.AccountLemmas.{IsOff, Speaks, leaves, off, on, speaks, tells-none}
use Rattle.effect_count.proofs.ChangeLemmas.{Becomes, acts, asks, came, ends, is_look, is_looked, lends, looks, returns, stays}
use Rattle.effect_count.proofs.ListLemmas.{changed-same}
use Rattle.effect_count.proofs.MoveLemmas.{AtPools, Kind, Moves, dialling, goes, goes-next, lending, moves, next-owed, next-unowed, others, pool_next, settles, still, still-next, unbound-waits, waits, waits-step}
use Rattle.effect_count.proofs.MoveLemmas as move
use Rattle.effect_count.proofs.NewLemmas.{client-adds, taken}
use Rattle.effect_count.proofs.OwedLemmas.{AllPass, AreOrdered, Greets, IsIn, Returning, asked-unbound, dialled-first, end-gives, gives_back, greets-step, hello-stream, in-back, in-front, in-pass, is_errored, is_greeting_for, is_unbound, left-keeps, looked-first, ordered-step, returned-turn, returning}
use Rattle.effect_count.proofs.OwedLemmas as owing
use Rattle.effect_count.proofs.PoolLemmas.{IsAmong, available-at, available-from, dialled-pending, lent-available, lent-pending, next-available, next-lent, owes-lent, pending-available}
use Rattle.effect_count.proofs.ServerLemmas.{conns-kept, dialled-at, taken-servers}
use Rattle.effect_count.proofs.ServerLemmas as line
use Rattle.effect_count.proofs.UseLemmas.{IsKnown, Uses, begun-stream, known-first, uses-step}

-- ---- What a command is to do next

-- its attempt ended
abbrev pub rests : Next → Bool
rests next.Select = true
rests (next.Answer o) = true
rests n = false

rests-lent : (n : Next) → rests n ≡ true → allows n event.Lent ≡ true → ⊥
rests-lent next.Select r a = absurd (cc)
rests-lent (next.Answer o) r a = absurd (cc)
rests-lent (next.CheckOut host) r a = absurd (cc)
rests-lent next.Send r a = absurd (cc)
rests-lent next.Read r a = absurd (cc)

rests-ends : (n : Next) (end : AttemptEnd) → rests n ≡ true → allows n (end_event end) ≡ true → ⊥
rests-ends next.Select (attempt.Replied reading) r a = absurd (cc)
rests-ends next.Select attempt.Cut r a = absurd (cc)
rests-ends next.Select attempt.Fault r a = absurd (cc)
rests-ends next.Select attempt.TimedOut r a = absurd (cc)
rests-ends next.Select (attempt.Bad at) r a = absurd (cc)
rests-ends next.Select (attempt.Unsent u) r a = absurd (cc)
rests-ends (next.Answer o) end r a = absurd (cc)
rests-ends (next.CheckOut host) end r a = absurd (cc)
rests-ends next.Send end r a = absurd (cc)
rests-ends next.Read end r a = absurd (cc)

rests-first : (drew : Bool) (end : AttemptEnd) → rests (machine.after_first drew end) ≡ true
rests-first drew end = by (again drew end)
  where
    by : (b : Bool) → rests (if b then next.Select else next.Answer (said end)) ≡ true
    by true = refl
    by false = refl

rests-by : (end : AttemptEnd) (o : Option AttemptEnd) (c : machine.Op) → rests (machine.ended_by end o c).next ≡ true
rests-by end None c = rests-first c.drew end
rests-by end (Some first) c = refl

rests-after : (c : machine.Op) (end : AttemptEnd) → rests (machine.after c (end_event end)).next ≡ true
rests-after c (attempt.Replied reading) = rests-by (attempt.Replied reading) c.first c
rests-after c attempt.Cut = rests-by attempt.Cut c.first c
rests-after c attempt.Fault = rests-by attempt.Fault c.first c
rests-after c attempt.TimedOut = rests-by attempt.TimedOut c.first c
rests-after c (attempt.Bad at) = rests-by (attempt.Bad at) c.first c
rests-after c (attempt.Unsent u) = rests-by (attempt.Unsent u) c.first c

-- a look leads to no request
chosen-not : (host : ℕ) (numbered : Bool) (o : Option AttemptEnd) (c : machine.Op) → (machine.chosen_by host numbered o c).next ≡ next.Send → ⊥
chosen-not host numbered None c e = absurd (cc)
chosen-not host true (Some first) c e = absurd (cc)
chosen-not host false (Some first) c e = absurd (cc)

without-not : (x : _) (o : Option AttemptEnd) → machine.answer_without x o ≡ next.Send → ⊥
without-not x None e = absurd (cc)
without-not x (Some first) e = absurd (cc)

look-not : (c : machine.Op) (e : OpEvent) → is_look e ≡ true → (machine.after c e).next ≡ next.Send → ⊥
look-not c (event.Chosen host numbered) q e = chosen-not host numbered c.first c e
look-not c event.NoServer q e = without-not _ c.first e
look-not c (event.Incompatible host min max) q e = without-not _ c.first e
look-not c event.Lent q e = absurd (cc)
look-not c event.Sent q e = absurd (cc)
look-not c (event.Unsent u) q e = absurd (cc)
look-not c (event.Replied reading) q e = absurd (cc)
look-not c event.Cut q e = absurd (cc)
look-not c event.Fault q e = absurd (cc)
look-not c event.TimedOut q e = absurd (cc)
look-not c (event.Bad at) q e = absurd (cc)

-- where it is to send or to read it looks for nothing, and is lent nothing
look-busy : (n : Next) (e : OpEvent) → is_look e ≡ true → allows n e ≡ true → n ≡ next.Select
look-busy next.Select e q a = refl
look-busy (next.CheckOut host) (event.Chosen x numbered) q a = absurd (cc)
look-busy (next.CheckOut host) event.NoServer q a = absurd (cc)
look-busy (next.CheckOut host) (event.Incompatible x min max) q a = absurd (cc)
look-busy (next.CheckOut host) e q a = absurd (cc)
look-busy next.Send (event.Chosen x numbered) q a = absurd (cc)
look-busy next.Send event.NoServer q a = absurd (cc)
look-busy next.Send (event.Incompatible x min max) q a = absurd (cc)
look-busy next.Send e q a = absurd (cc)
look-busy next.Read (event.Chosen x numbered) q a = absurd (cc)
look-busy next.Read event.NoServer q a = absurd (cc)
look-busy next.Read (event.Incompatible x min max) q a = absurd (cc)
look-busy next.Read e q a = absurd (cc)
look-busy (next.Answer o) e q a = absurd (cc)

-- what ends an attempt that is to send, or reads, gives the connection back
send-gives : (end : AttemptEnd) → allows next.Send (end_event end) ≡ true → gives_back end ≡ true
send-gives (attempt.Replied reading) a = refl
send-gives attempt.Cut a = refl
send-gives attempt.Fault a = refl
send-gives attempt.TimedOut a = refl
send-gives (attempt.Bad at) a = refl
send-gives (attempt.Unsent (unsent.TooLarge size most)) a = refl
send-gives (attempt.Unsent unsent.PoolLate) a = absurd (cc)
send-gives (attempt.Unsent (unsent.PoolCleared generation)) a = absurd (cc)
send-gives (attempt.Unsent (unsent.PoolClosed host)) a = absurd (cc)
send-gives (attempt.Unsent (unsent.Dial bad)) a = absurd (cc)
send-gives (attempt.Unsent (unsent.Greeting code)) a = absurd (cc)

read-gives : (end : AttemptEnd) → allows next.Read (end_event end) ≡ true → gives_back end ≡ true
read-gives (attempt.Replied reading) a = refl
read-gives attempt.Cut a = refl
read-gives attempt.Fault a = refl
read-gives attempt.TimedOut a = refl
read-gives (attempt.Bad at) a = refl
read-gives (attempt.Unsent u) a = absurd (cc)

-- one that is too large was to send
large-sends : (n : Next) (size most : ℕ) → allows n (event.Unsent (unsent.TooLarge size most)) ≡ true → n ≡ next.Send
large-sends next.Send size most a = refl
large-sends next.Select size most a = absurd (cc)
large-sends (next.CheckOut host) size most a = absurd (cc)
large-sends next.Read size most a = absurd (cc)
large-sends (next.Answer o) size most a = absurd (cc)

pub sent-sends : (n : Next) → allows n event.Sent ≡ true → n ≡ next.Send
sent-sends next.Send a = refl
sent-sends next.Select a = absurd (cc)
sent-sends (next.CheckOut host) a = absurd (cc)
sent-sends next.Read a = absurd (cc)
sent-sends (next.Answer o) a = absurd (cc)

-- a command with a connection is to send, reads, or is to give it back
pub data Past (op : ℕ) (n : Next) (ds : List Owed) : Type 0 where
  sends : n ≡ next.Send → Past op n ds
  reads : n ≡ next.Read → Past op n ds
  gives : rests n ≡ true → (e : Bool) → IsIn (owed.CheckedIn op e) ds → Past op n ds

past-lent : (op : ℕ) (n : Next) (ds : List Owed) → Past op n ds → allows n event.Lent ≡ true → ⊥
past-lent op n ds (sends e) a = let no : false ≡ true = sym (ap (λ m. allows m event.Lent) e) ∙ a in absurd (cc)
past-lent op n ds (reads e) a = let no : false ≡ true = sym (ap (λ m. allows m event.Lent) e) ∙ a in absurd (cc)
past-lent op n ds (gives r e i) a = rests-lent n r a

-- ---- A client's end

farewell-ends : (moment : ℕ) (p : Purpose) (stream : ℕ) (u : ClientState) → p ≡ purpose.Farewell →
    (commands_after (asked_event p) (asked_by moment p (farewell_by p stream u))).is_ending ≡ true
farewell-ends moment purpose.Farewell stream u e = refl
farewell-ends moment (purpose.Command op) stream u e = absurd (cc)
farewell-ends moment (purpose.Check host) stream u e = absurd (cc)
farewell-ends moment (purpose.Greeting host conn) stream u e = absurd (cc)

ending-stays : (client : Client) (w : ClientState) (moment : ℕ) (f : Fact) → IsLast f → w.is_ending ≡ true → (client_after client moment w f).is_ending ≡ true
ending-stays client w moment (fact.PoolShut host) i e = by (stays_at (slice_get w.servers host))
  where
    u : ClientState
    u = pool_after w moment (fact.PoolShut host)

    by : (b : Bool) → (if b then record u { is_ending = true } else u).is_ending ≡ true
    by true = refl
    by false = e
ending-stays client w moment (fact.ConnShut host conn reason) i e = e
ending-stays client w moment (fact.Asked place r) i e =
    let v : ClientState = record w { requests = w.requests + 1 } in
    farewell-ends moment r.purpose r.stream v i
ending-stays client w moment f i e = absurd i

not-ending : (client : Client) (w : ClientState) (moment : ℕ) (f : Fact) → MayGoOn w.is_ending f → (client_after client moment w f).is_ending ≡ false → w.is_ending ≡ false
not-ending client w moment f going e = by w.is_ending refl
  where
    by : (b : Bool) → w.is_ending ≡ b → w.is_ending ≡ false
    by false h = h
    by true h =
        let no : true ≡ false = sym (ending-stays client w moment f (subst (λ b. MayGoOn b f) h going) h) ∙ e in
        absurd (cc)

-- an entry that is none of the last ones
pub goes-on : (b : Bool) (f : Fact) → (IsLast f → ⊥) → MayGoOn b f → b ≡ false
goes-on false f n g = refl
goes-on true f n g = absurd (n g)

abbrev IsTold : ClientState → ℕ → Type 0
IsTold w s = (w.is_ending ≡ true) × (list_any (nat_eq s) w.farewells ≡ true)

farewell-more : (s x : ℕ) (fs : List ℕ) → list_any (nat_eq s) fs ≡ true → list_any (nat_eq s) (fs ++ x ∷ []) ≡ true
farewell-more s x fs h = list_any-append (nat_eq s) fs (x ∷ []) ∙ ap (λ b. b || (nat_eq s x || false)) h

farewell-first : (s x : ℕ) (fs : List ℕ) → s ≡ x → list_any (nat_eq s) (fs ++ x ∷ []) ≡ true
farewell-first s x fs e =
    list_any-append (nat_eq s) fs (x ∷ []) ∙ ap (λ b. list_any (nat_eq s) fs || (b || false)) (eq-eqb s x e) ∙ or-true (list_any (nat_eq s) fs)
  where
    or-true : (b : Bool) → (b || true) ≡ true
    or-true true = refl
    or-true false = refl

told-farewell : (moment : ℕ) (p : Purpose) (s stream : ℕ) (u : ClientState) → p ≡ purpose.Farewell → list_any (nat_eq s) u.farewells ≡ true →
    IsTold (commands_after (asked_event p) (asked_by moment p (farewell_by p stream u))) s
told-farewell moment purpose.Farewell s stream u e h = (refl, farewell-more s stream u.farewells h)
told-farewell moment (purpose.Command op) s stream u e h = absurd (cc)
told-farewell moment (purpose.Check host) s stream u e h = absurd (cc)
told-farewell moment (purpose.Greeting host conn) s stream u e h = absurd (cc)

told-now : (moment : ℕ) (p : Purpose) (s stream : ℕ) (u : ClientState) → p ≡ purpose.Farewell → s ≡ stream →
    IsTold (commands_after (asked_event p) (asked_by moment p (farewell_by p stream u))) s
told-now moment purpose.Farewell s stream u e h = (refl, farewell-first s stream u.farewells h)
told-now moment (purpose.Command op) s stream u e h = absurd (cc)
told-now moment (purpose.Check host) s stream u e h = absurd (cc)
told-now moment (purpose.Greeting host conn) s stream u e h = absurd (cc)

told-stays : (client : Client) (w : ClientState) (moment s : ℕ) (f : Fact) → IsLast f → IsTold w s → IsTold (client_after client moment w f) s
told-stays client w moment s (fact.PoolShut host) i t = by (stays_at (slice_get w.servers host))
  where
    u : ClientState
    u = pool_after w moment (fact.PoolShut host)

    by : (b : Bool) → IsTold (if b then record u { is_ending = true } else u) s
    by true = (refl, t.1)
    by false = t
told-stays client w moment s (fact.ConnShut host conn reason) i t = t
told-stays client w moment s (fact.Asked place r) i t =
    let v : ClientState = record w { requests = w.requests + 1 } in
    told-farewell moment r.purpose s r.stream v i t.1
told-stays client w moment s f i t = absurd i

-- ---- Streams of connections

-- a connection has its stream, or is dialled on it
pub conn-from : (client : Client) (moment : ℕ) (w : ClientState) (f : Fact) (host conn s : ℕ) → conn_stream_at (client_after client moment w f) host conn ≡ Some s →
    (conn_stream_at w host conn ≡ Some s) ⊎ ((op : ℕ) × (f ≡ fact.Dialled op host conn (Some s)))
conn-from client moment w (fact.Dialled op x c stream) host conn s h = by (dialled-at client moment w op x c stream host conn)
  where
    v : ClientState
    v = client_after client moment w (fact.Dialled op x c stream)

    by : line.Dials w v x c stream host conn → (conn_stream_at w host conn ≡ Some s) ⊎ ((k : ℕ) × (fact.Dialled op x c stream ≡ fact.Dialled k host conn (Some s)))
    by (line.other e) = inl (sym e ∙ h)
    by (line.own g i e) =
        inr (op, ap (λ y. fact.Dialled op y c stream) (sym g) ∙ ap (λ y. fact.Dialled op host y stream) (sym i) ∙ ap (fact.Dialled op host conn) (sym e ∙ h))
conn-from client moment w f host conn s h = inl (sym (conns-kept client moment w f host conn refl) ∙ h)

-- the stream of a check that begins is kept
kept-now : (client : Client) (p : Point) (moment host stream : ℕ) → MayStand client p moment (fact.CheckBegan host stream) →
    kept_at (client_after client moment p.state (fact.CheckBegan host stream)) host ≡ Some stream
kept-now client p moment host stream m =
    let u = stream_taken (kept_at p.state host) stream p.state in
    ap stream_kept (changed-same u.servers host (check_begins moment stream))
    ∙ ap (λ (o : Option ServerState). stream_kept (option_map (check_begins moment stream) o)) (ap (λ ss. slice_get ss host) (taken-servers (kept_at p.state host) stream p.state) ∙ m.1)

-- ---- What holds of a stream at a place of a trail

-- it is that of a connection that is neither available nor lent
pub record IsFree (w : ClientState) (pools : ℕ → Place Pool PoolEntry) (s : ℕ) (a : Account) : Type 0 where
  pub last : a.last ≡ None
  pub unused : (host conn : ℕ) → conn_stream_at w host conn ≡ Some s → times_available conn (pools host).state.available ≡ 0
  pub unlent : (op : ℕ) (c : CommandState) (host ticket conn : ℕ) → slice_get w.commands op ≡ Some c → c.check_out ≡ Has host ticket conn → conn_stream_at w host conn ≡ Some s → ⊥

-- a hello may be asked on a stream
pub record ToGreet (w : ClientState) (pools : ℕ → Place Pool PoolEntry) (s : ℕ) (a : Account) (n : ℕ) : Type 0 where
  pub known : IsKnown w.streams n
  pub own : n ≡ s → ((host : ℕ) × (kept_at w host ≡ Some s)) ⊎ IsFree w pools s a

pub record Keeps (p : Point) (pools : ℕ → Place Pool PoolEntry) (s : ℕ) (a : Account) : Type 0 where
  pub uses : Uses p.state
  pub ordered : AreOrdered p.owed
  pub counts : (y : ℕ) → length (pools y).owed ≤ waits y p.owed
  pub greets : Greets (ToGreet p.state pools s a) p.owed
  pub rest : (op : ℕ) (c : CommandState) (e : Bool) → IsIn (owed.CheckedIn op e) p.owed → slice_get p.state.commands op ≡ Some c → rests c.op.next ≡ true
  pub past : (op : ℕ) (c : CommandState) (host ticket conn : ℕ) → slice_get p.state.commands op ≡ Some c → c.check_out ≡ Has host ticket conn → Past op c.op.next p.owed
  pub given : (op : ℕ) (c : CommandState) (host ticket conn : ℕ) → slice_get p.state.commands op ≡ Some c → c.check_out ≡ Has host ticket conn →
      conn_stream_at p.state host conn ≡ Some s → IsIn (owed.CheckedIn op false) p.owed → a.last ≡ None
  pub sent : p.state.is_ending ≡ false → (op : ℕ) (c : CommandState) (host ticket conn : ℕ) → slice_get p.state.commands op ≡ Some c → c.check_out ≡ Has host ticket conn →
      conn_stream_at p.state host conn ≡ Some s → c.op.next ≡ next.Send → a.last ≡ None
  pub lent : (host conn n : ℕ) → conn_stream_at p.state host conn ≡ Some s → IsAmong (pool.Lent n conn) (pools host).owed → a.last ≡ None
  pub available : (host conn : ℕ) → conn_stream_at p.state host conn ≡ Some s → 1 ≤ times_available conn (pools host).state.available →
      (a.last ≡ None) ⊎ IsTold p.state s

-- ---- Who asks on it

pub data Asking (p : Point) (pools : ℕ → Place Pool PoolEntry) (s : ℕ) (a : Account) (r : Request) : Type 0 where
  command : (op : ℕ) (c : CommandState) (host ticket conn : ℕ) → r.purpose ≡ purpose.Command op → slice_get p.state.commands op ≡ Some c → c.check_out ≡ Has host ticket conn →
      conn_stream_at p.state host conn ≡ Some s → Asking p pools s a r
  farewell : (host conn : ℕ) → r.purpose ≡ purpose.Farewell → conn_stream_at p.state host conn ≡ Some s → 1 ≤ times_available conn (pools host).state.available →
      list_any (nat_eq s) p.state.farewells ≡ false → Asking p pools s a r
  hello : is_greeting_for r.purpose ≡ true → ToGreet p.state pools s a s → Asking p pools s a r

asking-for : (client : Client) (p : Point) (pools : ℕ → Place Pool PoolEntry) (moment s : ℕ) (a : Account) (place : ℕ) (r : Request) (to : Purpose) → r.purpose ≡ to → r.stream ≡ s →
    IsFor client p.state moment p.time to r → InTurn p.owed (fact.Asked place r) → AtPools p.state pools → Greets (ToGreet p.state pools s a) p.owed → Asking p pools s a r
asking-for client p pools moment s a place r (purpose.Command op) e own i turn at g =
    let q : IsRequestOf client p.state p.time op r = i in
    command op q.sends.running q.sends.host q.sends.ticket q.sends.conn e q.sends.there q.sends.lent
    (ap (option_and_then (λ (x : ServerState). stream_of x q.sends.conn)) q.sends.at ∙ q.stream ∙ ap (λ n. Some n) own)
asking-for client p pools moment s a place r purpose.Farewell e own i turn at g =
    let q : IsFarewell p.state moment r = i in
    farewell q.host q.free.conn e (ap (option_and_then (λ (x : ServerState). stream_of x q.free.conn)) q.at ∙ q.stream ∙ ap (λ n. Some n) own)
    (subst (λ (x : Place Pool PoolEntry). 1 ≤ times_available q.free.conn x.state.available) (at.are q.host q.server q.at)
    (available-at q.free.conn q.server.pool.state.available q.place q.free q.available refl))
    (subst (λ n. list_any (nat_eq n) p.state.farewells ≡ false) own q.unused)
asking-for client p pools moment s a place r (purpose.Check host) e own i turn at g =
    hello (ap is_greeting_for e) (subst (ToGreet p.state pools s a) own (hello-stream (ToGreet p.state pools s a) p.owed place r (ap is_greeting_for e) turn g))
asking-for client p pools moment s a place r (purpose.Greeting host conn) e own i turn at g =
    hello (ap is_greeting_for e) (subst (ToGreet p.state pools s a) own (hello-stream (ToGreet p.state pools s a) p.owed place r (ap is_greeting_for e) turn g))

pub asking : (client : Client) (p : Point) (pools : ℕ → Place Pool PoolEntry) (moment s : ℕ) (a : Account) (f : Fact) (place : ℕ) (r : Request) → f ≡ fact.Asked place r → r.stream ≡ s →
    MayStand client p moment f → InTurn p.owed f → AtPools p.state pools → Keeps p pools s a → Asking p pools s a r
asking client p pools moment s a f place r is own m turn at k =
    let i : IsAsked client p.state moment p.time place r = subst (MayStand client p moment) is m in
    asking-for client p pools moment s a place r r.purpose refl own i.is_for (subst (InTurn p.owed) is turn) at k.greets

-- ---- Behind one entry more

pub record Step (client : Client) (p : Point) (moment : ℕ) (f : Fact) (old new : ℕ → Place Pool PoolEntry) (s : ℕ) (a b : Account) : Type 0 where
  pub rule : MayStand client p moment f
  pub turn : InTurn p.owed f
  pub going : MayGoOn p.state.is_ending f
  pub command : CommandAllows p.state (command_step client p.state f)
  pub at : AtPools p.state old
  pub behind : AtPools (client_after client moment p.state f) new
  pub pools : (y : ℕ) → new y ≡ pool_next (old y) y moment (pool_step p.state f)
  pub tells : b ≡ with_mention s a (mention_of client p.state moment f)
  pub fresh : list_any (nat_eq s) p.state.streams ≡ false → a.last ≡ None

among-some : (e : PoolEntry) (ds : List PoolEntry) → IsAmong e ds → 1 ≤ length ds
among-some e [] i = absurd i
among-some e (d ∷ ds) i = omega arith

-- an attempt's end is that of its command
ended-op : (op : ℕ) (end : AttemptEnd) (f : Fact) (c d : CommandState) → f ≡ fact.Ended op end → Becomes f op c d →
    (allows c.op.next (end_event end) ≡ true) × (d.op ≡ machine.after c.op (end_event end)) × (d.check_out ≡ c.check_out)
ended-op op end f c d is (stays n same held) = let no : true ≡ false = sym (ap (λ g. acts g op) is ∙ eq-eqb op op refl) ∙ n in absurd (cc)
ended-op op end f c d is (looks l e q al same out) = let no : false ≡ true = sym (ap is_looked is) ∙ l in absurd (cc)
ended-op op end f c d is (lends host conn i al same out) = absurd (let no = sym i ∙ is in cc)
ended-op op end f c d is (asks place r i to al same out) = absurd (let no = sym i ∙ is in cc)
ended-op op end f c d is (ends x i al same out) =
    let both : fact.Ended op x ≡ fact.Ended op end = sym i ∙ is in
    let one : x ≡ end = (cc) in
    (subst (λ y. allows c.op.next (end_event y) ≡ true) one al, subst (λ y. d.op ≡ machine.after c.op (end_event y)) one same, out)
ended-op op end f c d is (returns host conn errored i same out) = absurd (let no = sym i ∙ is in cc)

time-is : (f : Fact) → is_time f ≡ true → (stamp : ℕ) × (f ≡ fact.Time stamp)
time-is (fact.Time stamp) q = (stamp, refl)
time-is f q = absurd (cc)

lent-out : (conn : ℕ) (h : CheckOut) (host ticket n : ℕ) → has_by conn h ≡ Has host ticket n → (h ≡ Has host ticket n) ⊎ (host_held h ≡ Some host) × (n ≡ conn)
lent-out conn Nothing host ticket n e = absurd (cc)
lent-out conn (Waits x t) host ticket n e = inr ((cc), (cc))
lent-out conn (Dials x t m) host ticket n e = inr ((cc), (cc))
lent-out conn (Has x t m) host ticket n e = inl e

module _ (client : Client) (p : Point) (moment : ℕ) (f : Fact) (old new : ℕ → Place Pool PoolEntry) (s : ℕ) (a b : Account) (i : Step client p moment f old new s a b) (k : Keeps p old s a) where
  none-stays : IsOff s f → a.last ≡ None → b.last ≡ None
  none-stays n h = ap (λ (x : Account). x.last) i.tells ∙ (leaves client p.state moment s f a n).none h

  -- a request is asked where nothing of a pool and no check-in must come next
  asked-bound : (place : ℕ) (r : Request) → f ≡ fact.Asked place r → AllPass is_unbound p.owed
  asked-bound place r is = asked-unbound p.owed place r (subst (InTurn p.owed) is i.turn) k.ordered

  off-returned : (op : ℕ) (e : Bool) → IsIn (owed.CheckedIn op e) p.owed → IsOff s f
  off-returned op e j place r is own = let no : false ≡ true = in-pass is_unbound (owed.CheckedIn op e) p.owed (asked-bound place r is) j in absurd (cc)

  off-pool : (host : ℕ) (e : PoolEntry) → IsAmong e (old host).owed → IsOff s f
  off-pool host e j place r is own =
      let none = unbound-waits host p.owed (asked-bound place r is) in
      let some = among-some e (old host).owed j in
      let most = k.counts host in
      absurd (omega (arith, none, some, most))

  -- a connection is dialled as the next one
  dial-next : (op host conn : ℕ) (stream : Option ℕ) → f ≡ fact.Dialled op host conn stream → conn ≡ (old host).state.dialled + 1
  dial-next op host conn stream is = (dialling client p old moment op host conn stream (subst (MayStand client p moment) is i.rule) i.at).may.5

  dial-pool : (op host conn : ℕ) (stream : Option ℕ) → f ≡ fact.Dialled op host conn stream →
      (t : ℕ) × (new host ≡ record { state = pool.after (old host).state moment (pool.Dialled t conn); owed = [] })
  dial-pool op host conn stream is =
      let d = dialling client p old moment op host conn stream (subst (MayStand client p moment) is i.rule) i.at in (
        d.ticket,
        i.pools host ∙ goes-next (old host) host moment (pool_step p.state f) (pool.Dialled d.ticket conn) (ap (pool_step p.state) is ∙ d.step)
            ∙ next-unowed (old host) moment (pool.Dialled d.ticket conn) d.none,
      )

  dial-pending : (op host conn : ℕ) (stream : Option ℕ) → f ≡ fact.Dialled op host conn stream → 1 ≤ times_held conn (new host).state.pending
  dial-pending op host conn stream is =
      let d = dial-pool op host conn stream is in
      subst (λ (q : Place Pool PoolEntry). 1 ≤ times_held conn q.state.pending) (sym d.1) (dialled-pending (old host).state moment d.0 conn)

  -- ---- Hellos

  greet-time : is_time f ≡ true → (n : ℕ) → ToGreet p.state old s a n → ToGreet (client_after client moment p.state f) new s b n
  greet-time q n g =
      let t = time-is f q in
      let same : client_after client moment p.state f ≡ p.state = ap (client_after client moment p.state) t.1 in
      let pools : (y : ℕ) → new y ≡ old y = λ y. i.pools y ∙ ap (λ g. pool_next (old y) y moment (pool_step p.state g)) t.1 in
      let tells : b ≡ a = i.tells ∙ ap (λ g. with_mention s a (mention_of client p.state moment g)) t.1 in
      subst (λ w. ToGreet w new s b n) (sym same) (record {
        known = g.known;
        own = λ e. elim (g.own e) [
          | inl kept ↦ inl kept
          | inr free ↦ inr (record {
            last = ap (λ (x : Account). x.last) tells ∙ free.last;
            unused = λ host conn at. ap (λ (x : Place Pool PoolEntry). times_available conn x.state.available) (pools host) ∙ free.unused host conn at;
            unlent = free.unlent;
          })
        ];
      })

  greet-check : (host stream : ℕ) → f ≡ fact.CheckBegan host stream → ToGreet (client_after client moment p.state f) new s b stream
  greet-check host stream is =
      let m = subst (MayStand client p moment) is i.rule in
      let v = client_after client moment p.state (fact.CheckBegan host stream) in
      let adds : v.streams ≡ taken (kept_at p.state host) stream ++ p.state.streams = client-adds client moment p.state (fact.CheckBegan host stream) in
      subst (λ g. ToGreet (client_after client moment p.state g) new s b stream) (sym is) (record {
        known = elim (begun-stream client p moment host stream m) [
          | inl x ↦ subst (λ ss. IsKnown ss stream) (sym (adds ∙ ap (λ o. taken o stream ++ p.state.streams) x.0)) (known-first p.state.streams stream stream refl)
          | inr x ↦ subst (λ ss. IsKnown ss stream) (sym (adds ∙ ap (λ o. taken o stream ++ p.state.streams) x)) (k.uses.checks host stream x)
        ];
        own = λ e. inl (host, kept-now client p moment host stream m ∙ ap (λ n. Some n) e);
      })

  greet-dial : (op host conn stream : ℕ) → f ≡ fact.Dialled op host conn (Some stream) → ToGreet (client_after client moment p.state f) new s b stream
  greet-dial op host conn stream is = record {
    known = subst (λ g. IsKnown (client_after client moment p.state g).streams stream) (sym is)
        (subst (λ ss. IsKnown ss stream) (sym (client-adds client moment p.state (fact.Dialled op host conn (Some stream)))) (known-first p.state.streams stream stream refl));
    own = λ e. inr (free e);
  }
    where
      isnew : IsNew p.state stream
      isnew = (subst (MayStand client p moment) is i.rule).0

      dialled : stream ≡ s → (h c : ℕ) → conn_stream_at (client_after client moment p.state f) h c ≡ Some s → (x : ℕ) × (f ≡ fact.Dialled x h c (Some s))
      dialled e h c at = elim (conn-from client moment p.state f h c s at) [
        | inl was ↦
            let known : list_any (nat_eq stream) p.state.streams ≡ true = subst (IsKnown p.state.streams) (sym e) (k.uses.conns h c s was) in
            let no : true ≡ false = sym known ∙ isnew in
            absurd (cc)
        | inr d ↦ d
      ]

      free : stream ≡ s → IsFree (client_after client moment p.state f) new s b
      free e = record {
        last = none-stays (λ place r q own. absurd (let no = sym is ∙ q in cc)) (i.fresh (subst (λ n. list_any (nat_eq n) p.state.streams ≡ false) e isnew));
        unused = λ h c at.
            let d = dialled e h c at in
            pending-available (new h).state c (i.behind.whole h).sound (dial-pending d.0 h c (Some s) d.1);
        unlent = λ k2 x h t c there lent at.
            let d = dialled e h c at in
            lent-pending (new h).state c (i.behind.whole h).sound (i.behind.lent k2 x h t c there lent) (dial-pending d.0 h c (Some s) d.1);
      }

  -- ---- Commands

  rest-step : (op : ℕ) (d : CommandState) (e : Bool) → IsIn (owed.CheckedIn op e) (owes client moment p.state f ++ left_owed p.owed f) →
      slice_get (client_after client moment p.state f).commands op ≡ Some d → rests d.op.next ≡ true
  rest-step op d e j there =
      let o = came client p.state moment f op d i.command there in
      by o.old o.there o.becomes (returning client moment p.state f p.owed op e j)
    where
      was : (c : CommandState) → slice_get p.state.commands op ≡ Some c → Becomes f op c d → IsIn (owed.CheckedIn op e) p.owed → rests d.op.next ≡ true
      was c at (stays n same held) x = ap (λ (o : machine.Op). rests o.next) same ∙ k.rest op c e x at
      was c at (looks l ev q al same out) x = absurd (subst (IsIn (owed.CheckedIn op e)) (looked-first p.owed f l i.turn) x)
      was c at (lends host conn is al same out) x = absurd (rests-lent c.op.next (k.rest op c e x at) al)
      was c at (asks place r is to al same out) x = absurd (let no : false ≡ true = in-pass is_unbound (owed.CheckedIn op e) p.owed (asked-bound place r is) x in cc)
      was c at (ends end is al same out) x = absurd (rests-ends c.op.next end (k.rest op c e x at) al)
      was c at (returns host conn errored is same out) x = ap (λ (o : machine.Op). rests o.next) same ∙ k.rest op c e x at

      by : (c : CommandState) → slice_get p.state.commands op ≡ Some c → Becomes f op c d → Returning op e f p.owed → rests d.op.next ≡ true
      by c at m (owing.was x) = was c at m x
      by c at m (owing.ends end is so g) = ap (λ (o : machine.Op). rests o.next) (ended-op op end f c d is m).1 ∙ rests-after c.op end

  past-step : (op : ℕ) (d : CommandState) (host ticket conn : ℕ) → slice_get (client_after client moment p.state f).commands op ≡ Some d → d.check_out ≡ Has host ticket conn →
      Past op d.op.next (owes client moment p.state f ++ left_owed p.owed f)
  past-step op d host ticket conn there has =
      let o = came client p.state moment f op d i.command there in
      by o.old o.there o.becomes
    where
      ds : List Owed
      ds = owes client moment p.state f ++ left_owed p.owed f

      kept : (c : CommandState) → acts f op ≡ false → d.op ≡ c.op → Past op c.op.next p.owed → Past op d.op.next ds
      kept c n same (sends e) = sends (ap (λ (o : machine.Op). o.next) same ∙ e)
      kept c n same (reads e) = reads (ap (λ (o : machine.Op). o.next) same ∙ e)
      kept c n same (gives r e x) =
          gives (ap (λ (o : machine.Op). rests o.next) same ∙ r) e
          (in-back (owed.CheckedIn op e) (owes client moment p.state f) (left_owed p.owed f)
          (left-keeps op e p.owed f i.turn (λ h c er is. let no : true ≡ false = sym (ap (λ g. acts g op) is ∙ eq-eqb op op refl) ∙ n in absurd (cc)) x))

      ended : (c : CommandState) (end : AttemptEnd) → f ≡ fact.Ended op end → d.op ≡ machine.after c.op (end_event end) → gives_back end ≡ true → Past op d.op.next ds
      ended c end is same g =
          gives (ap (λ (o : machine.Op). rests o.next) same ∙ rests-after c.op end) (is_errored end)
          (in-front (owed.CheckedIn op (is_errored end)) (owes client moment p.state f) (left_owed p.owed f)
          (subst (λ g. IsIn (owed.CheckedIn op (is_errored end)) (owes client moment p.state g)) (sym is) (end-gives op (endpoint_at p.state op) end g)))

      giving : (c : CommandState) (end : AttemptEnd) → Past op c.op.next p.owed → allows c.op.next (end_event end) ≡ true → gives_back end ≡ true
      giving c end (sends e) al = send-gives end (sym (ap (λ n. allows n (end_event end)) e) ∙ al)
      giving c end (reads e) al = read-gives end (sym (ap (λ n. allows n (end_event end)) e) ∙ al)
      giving c end (gives r e x) al = absurd (rests-ends c.op.next end r al)

      looked : (c : CommandState) (e : OpEvent) → is_looked f ≡ true → is_look e ≡ true → allows c.op.next e ≡ true → Past op c.op.next p.owed → ⊥
      looked c e l q al (sends x) = let no : next.Send ≡ next.Select = sym x ∙ look-busy c.op.next e q al in absurd (cc)
      looked c e l q al (reads x) = let no : next.Read ≡ next.Select = sym x ∙ look-busy c.op.next e q al in absurd (cc)
      looked c e l q al (gives r er x) = subst (IsIn (owed.CheckedIn op er)) (looked-first p.owed f l i.turn) x

      by : (c : CommandState) → slice_get p.state.commands op ≡ Some c → Becomes f op c d → Past op d.op.next ds
      by c at (stays n same held) = kept c n same (k.past op c host ticket conn at (held host ticket conn has))
      by c at (looks l e q al same out) = absurd (looked c e l q al (k.past op c host ticket conn at (sym out ∙ has)))
      by c at (lends x y is al same out) = sends (ap (λ (o : machine.Op). o.next) same)
      by c at (asks place r is to al same out) = reads (ap (λ (o : machine.Op). o.next) same)
      by c at (ends end is al same out) = ended c end is same (giving c end (k.past op c host ticket conn at (sym out ∙ has)) al)
      by c at (returns x y errored is same out) = absurd (let no : Nothing ≡ Has host ticket conn = sym out ∙ has in cc)

  given-step : (op : ℕ) (d : CommandState) (host ticket conn : ℕ) → slice_get (client_after client moment p.state f).commands op ≡ Some d → d.check_out ≡ Has host ticket conn →
      conn_stream_at (client_after client moment p.state f) host conn ≡ Some s → IsIn (owed.CheckedIn op false) (owes client moment p.state f ++ left_owed p.owed f) → b.last ≡ None
  given-step op d host ticket conn there has at j =
      let o = came client p.state moment f op d i.command there in
      by o.old o.there o.becomes (returning client moment p.state f p.owed op false j)
    where
      -- the connection is not dialled
      stream : ((x : ℕ) → f ≡ fact.Dialled x host conn (Some s) → ⊥) → conn_stream_at p.state host conn ≡ Some s
      stream n = elim (conn-from client moment p.state f host conn s at) [
        | inl c ↦ c
        | inr c ↦ absurd (n c.0 c.1)
      ]

      was : (c : CommandState) → slice_get p.state.commands op ≡ Some c → Becomes f op c d → IsIn (owed.CheckedIn op false) p.owed → b.last ≡ None
      was c was-at (stays n same held) x =
          let c-at = stream (λ y is. subst (IsIn (owed.CheckedIn op false)) (dialled-first p.owed y host conn (Some s) (subst (InTurn p.owed) is i.turn)) x) in
          none-stays (off-returned op false x) (k.given op c host ticket conn was-at (held host ticket conn has) c-at x)
      was c was-at (looks l ev q al same out) x = absurd (subst (IsIn (owed.CheckedIn op false)) (looked-first p.owed f l i.turn) x)
      was c was-at (lends h n is al same out) x = absurd (rests-lent c.op.next (k.rest op c false x was-at) al)
      was c was-at (asks place r is to al same out) x = absurd (let no : false ≡ true = in-pass is_unbound (owed.CheckedIn op false) p.owed (asked-bound place r is) x in cc)
      was c was-at (ends end is al same out) x = absurd (rests-ends c.op.next end (k.rest op c false x was-at) al)
      was c was-at (returns h n errored is same out) x = absurd (let no : Nothing ≡ Has host ticket conn = sym out ∙ has in cc)

      ended : (c : CommandState) (end : AttemptEnd) → slice_get p.state.commands op ≡ Some c → f ≡ fact.Ended op end → allows c.op.next (end_event end) ≡ true →
          c.check_out ≡ Has host ticket conn → conn_stream_at p.state host conn ≡ Some s → is_errored end ≡ false → gives_back end ≡ true → b.last ≡ None
      ended c (attempt.Replied reading) c-there is al out c-at so g =
          let own : stream_at p.state op ≡ Some s =
          ap (λ o. option_and_then (held_stream p.state) (option_map (λ (x : CommandState). x.check_out) o)) c-there ∙ ap (held_stream p.state) out ∙ c-at in
          ap (λ (x : Account). x.last) (i.tells ∙ ap (λ g. with_mention s a (mention_of client p.state moment g)) is) ∙ tells-none s a (stream_at p.state op) (told.Reply reading) own
      ended c (attempt.Unsent (unsent.TooLarge size most)) c-there is al out c-at so g =
          let going = goes-on p.state.is_ending f (λ l. subst IsLast is l) i.going in
          none-stays (λ place r q own. absurd (let no = sym is ∙ q in cc)) (k.sent going op c host ticket conn c-there out c-at (large-sends c.op.next size most al))
      ended c attempt.Cut c-there is al out c-at so g = absurd (cc)
      ended c attempt.Fault c-there is al out c-at so g = absurd (cc)
      ended c attempt.TimedOut c-there is al out c-at so g = absurd (cc)
      ended c (attempt.Bad x) c-there is al out c-at so g = absurd (cc)
      ended c (attempt.Unsent u) c-there is al out c-at so g = absurd (cc)

      by : (c : CommandState) → slice_get p.state.commands op ≡ Some c → Becomes f op c d → Returning op false f p.owed → b.last ≡ None
      by c c-there m (owing.was x) = was c c-there m x
      by c c-there m (owing.ends end is so g) =
          let o = ended-op op end f c d is m in
          ended c end c-there is o.0 (sym o.2 ∙ has) (stream (λ y q. absurd (let no = sym is ∙ q in cc))) so g

  sent-step : (client_after client moment p.state f).is_ending ≡ false → (op : ℕ) (d : CommandState) (host ticket conn : ℕ) →
      slice_get (client_after client moment p.state f).commands op ≡ Some d → d.check_out ≡ Has host ticket conn →
      conn_stream_at (client_after client moment p.state f) host conn ≡ Some s → d.op.next ≡ next.Send → b.last ≡ None
  sent-step going op d host ticket conn there has at send =
      let o = came client p.state moment f op d i.command there in
      by o.old o.there o.becomes
    where
      goes-ahead : p.state.is_ending ≡ false
      goes-ahead = not-ending client p.state moment f i.going going

      -- another request is not asked on it
      other : (c : CommandState) → slice_get p.state.commands op ≡ Some c → acts f op ≡ false → c.check_out ≡ Has host ticket conn → conn_stream_at p.state host conn ≡ Some s → IsOff s f
      other c c-there n out c-at place r is own = by-asking (asking client p old moment s a f place r is own i.rule i.turn i.at k)
        where
          by-asking : Asking p old s a r → ⊥
          by-asking (command x y h t m to y-there y-out y-at) =
              let same = k.uses.one h m host conn s y-at c-at in
              let y-same : y.check_out ≡ Has host t conn = y-out ∙ ap (λ z. Has z t m) same.0 ∙ ap (Has host t) same.1 in
              let one : x ≡ op = i.at.one x op y c host t ticket conn y-there c-there y-same out in
              let no : true ≡ false = sym (ap (λ g. acts g op) is ∙ ap (asks_for op) to ∙ eq-eqb x op one) ∙ n in
              absurd (cc)
          by-asking (farewell h m to m-at avail unused) =
              let u : ClientState = record p.state { requests = p.state.requests + 1 } in
              let no : true ≡ false = sym (farewell-ends moment r.purpose r.stream u to) ∙ ap (λ g. (client_after client moment p.state g).is_ending) (sym is) ∙ going in
              absurd (cc)
          by-asking (hello to g) = elim (g.own refl) [
            | inl kept ↦ k.uses.apart host conn kept.0 s c-at kept.1
            | inr free ↦ free.unlent op c host ticket conn c-there out c-at
          ]

      by : (c : CommandState) → slice_get p.state.commands op ≡ Some c → Becomes f op c d → b.last ≡ None
      by c c-there (stays n same held) =
          let out = held host ticket conn has in
          elim (conn-from client moment p.state f host conn s at) [
            | inl c-at ↦
                none-stays (other c c-there n out c-at)
                (k.sent goes-ahead op c host ticket conn c-there out c-at (ap (λ (o : machine.Op). o.next) (sym same) ∙ send))
            | inr x ↦ absurd (next-lent (old host).state conn (i.at.whole host).sound (dial-next x.0 host conn (Some s) x.1) (i.at.lent op c host ticket conn c-there out))
          ]
      by c c-there (looks l e q al same out) = absurd (look-not c.op e q (ap (λ (o : machine.Op). o.next) (sym same) ∙ send))
      by c c-there (lends x y is al same out) =
          let l = lending client p old moment op x y (subst (MayStand client p moment) is i.rule) i.at in
          let off-it : IsOff s f = λ place r q own. absurd (let no = sym is ∙ q in cc) in
          let c-at : conn_stream_at p.state host conn ≡ Some s = elim (conn-from client moment p.state f host conn s at) [
            | inl here ↦ here
            | inr dial ↦ absurd (let no = sym is ∙ dial.1 in cc)
          ] in
          elim (lent-out y c.check_out host ticket conn (sym out ∙ has)) [
            | inl was ↦ absurd (past-lent op c.op.next p.owed (k.past op c host ticket conn c-there was) al)
            | inr now ↦
                let both : Some l.command ≡ Some c = sym l.there ∙ c-there in
                let one : l.command ≡ c = (cc) in
                let hosts : Some host ≡ Some x = sym now.0 ∙ ap (λ (z : CommandState). host_held z.check_out) (sym one) ∙ l.held in
                let own : x ≡ host = (cc) in
                let conns : y ≡ conn = sym now.1 in
                none-stays off-it (elim l.from [
                  | inl avail ↦ elim (k.available host conn c-at (subst (λ z. 1 ≤ times_available conn (old z).state.available) own (subst (λ z. 1 ≤ times_available z (old x).state.available) conns avail))) [
                    | inl none ↦ none
                    | inr end ↦ absurd (let no : true ≡ false = sym end.0 ∙ goes-ahead in cc)
                  ]
                  | inr among ↦
                      k.lent host conn among.0 c-at (subst (λ z. IsAmong (pool.Lent among.0 conn) (old z).owed) own (subst (λ z. IsAmong (pool.Lent among.0 z) (old x).owed) conns among.1))
                ])
          ]
      by c c-there (asks place r is to al same out) = absurd (let no : next.Read ≡ next.Send = ap (λ (o : machine.Op). o.next) (sym same) ∙ send in cc)
      by c c-there (ends end is al same out) =
          absurd (let no : true ≡ false = sym (rests-after c.op end) ∙ ap (λ (o : machine.Op). rests o.next) (sym same) ∙ ap rests send in cc)
      by c c-there (returns x y errored is same out) = absurd (let no : Nothing ≡ Has host ticket conn = sym out ∙ has in cc)

  -- ---- Pools

  lent-step : (host conn n : ℕ) → conn_stream_at (client_after client moment p.state f) host conn ≡ Some s → IsAmong (pool.Lent n conn) (new host).owed → b.last ≡ None
  lent-step host conn n at j = by (moves client p old moment f i.rule i.at host)
    where
      was : IsAmong (pool.Lent n conn) (old host).owed → b.last ≡ None
      was x = elim (conn-from client moment p.state f host conn s at) [
        | inl c-at ↦ none-stays (off-pool host (pool.Lent n conn) x) (k.lent host conn n c-at x)
        | inr dial ↦
            let none : p.owed ≡ [] = dialled-first p.owed dial.0 host conn (Some s) (subst (InTurn p.owed) dial.1 i.turn) in
            let nil = ap (waits host) none in
            let some = among-some (pool.Lent n conn) (old host).owed x in
            let most = k.counts host in
            absurd (omega (arith, nil, some, most))
      ]

      settled : (op c t : ℕ) (stale : Bool) (e : PoolEntry) → f ≡ fact.Settled op host c stale → e ≡ pool.Settled t c stale → e ≡ pool.Settled n conn false → b.last ≡ None
      settled op c t stale e is e-is e-was =
          let both : pool.Settled t c stale ≡ pool.Settled n conn false = sym e-is ∙ e-was in
          let own : c ≡ conn = (cc) in
          let c-at : conn_stream_at p.state host conn ≡ Some s = elim (conn-from client moment p.state f host conn s at) [
            | inl here ↦ here
            | inr dial ↦ absurd (let no = sym is ∙ dial.1 in cc)
          ] in
          ap (λ (x : Account). x.last) (i.tells ∙ ap (λ g. with_mention s a (mention_of client p.state moment g)) is)
          ∙ tells-none s a (conn_stream_at p.state host c) told.Greeted (ap (conn_stream_at p.state host) own ∙ c-at)

      of-kind : (e : PoolEntry) → Kind p.state f host e → e ≡ pool.Settled n conn false → b.last ≡ None
      of-kind e (settles op c t stale is e-is) e-was = settled op c t stale e is e-is e-was
      of-kind e (move.returns op c t errored is e-is x there out) e-was = absurd (let no : pool.CheckedIn t c errored ≡ pool.Settled n conn false = sym e-is ∙ e-was in cc)
      of-kind e (others q) e-was = absurd (let no : false ≡ true = sym (ap move.is_other e-was) ∙ q in cc)

      by : Moves p.state moment f host (old host) → b.last ≡ None
      by (still none nil) =
          let same : new host ≡ old host = i.pools host ∙ still-next (old host) host moment (pool_step p.state f) none in
          was (subst (λ (q : Place Pool PoolEntry). IsAmong (pool.Lent n conn) q.owed) same j)
      by (goes e step x there is stands kind) = owed-by (old host).owed refl
        where
          now : new host ≡ next_place pool_judge (old host) (record { at = moment; what = e })
          now = i.pools host ∙ goes-next (old host) host moment (pool_step p.state f) e step

          owed-by : (ds : List PoolEntry) → (old host).owed ≡ ds → b.last ≡ None
          owed-by [] none =
              of-kind e kind (owes-lent (old host).state e n conn
              (subst (λ (q : Place Pool PoolEntry). IsAmong (pool.Lent n conn) q.owed) (now ∙ next-unowed (old host) moment e none) j))
          owed-by (d ∷ ds) some =
              was (subst (IsAmong (pool.Lent n conn)) (sym some)
              (inr (subst (λ (q : Place Pool PoolEntry). IsAmong (pool.Lent n conn) q.owed) (now ∙ next-owed (old host) moment e d ds some) j)))

  available-step : (host conn : ℕ) → conn_stream_at (client_after client moment p.state f) host conn ≡ Some s → 1 ≤ times_available conn (new host).state.available →
      (b.last ≡ None) ⊎ IsTold (client_after client moment p.state f) s
  available-step host conn at j = elim (conn-from client moment p.state f host conn s at) [
    | inl c-at ↦ by c-at (moves client p old moment f i.rule i.at host)
    | inr dial ↦
        let d = dial-pool dial.0 host conn (Some s) dial.1 in
        absurd (next-available (old host).state conn (i.at.whole host).sound (dial-next dial.0 host conn (Some s) dial.1)
        (subst (λ (q : Place Pool PoolEntry). 1 ≤ times_available conn q.state.available) d.1 j))
  ]
    where
      was : conn_stream_at p.state host conn ≡ Some s → 1 ≤ times_available conn (old host).state.available → (b.last ≡ None) ⊎ IsTold (client_after client moment p.state f) s
      was c-at x = elim (k.available host conn c-at x) [
        | inl none ↦ spoken none
        | inr end ↦ inr (told-stays client p.state moment s f (subst (λ y. MayGoOn y f) end.0 i.going) end)
      ]
        where
          asked-on : (place : ℕ) (r : Request) → f ≡ fact.Asked place r → r.stream ≡ s → Asking p old s a r → IsTold (client_after client moment p.state f) s
          asked-on place r is own (command op y h t m to y-there y-out y-at) =
              let same = k.uses.one h m host conn s y-at c-at in
              let y-same : y.check_out ≡ Has host t conn = y-out ∙ ap (λ z. Has z t m) same.0 ∙ ap (Has host t) same.1 in
              absurd (lent-available (old host).state conn (i.at.whole host).sound (i.at.lent op y host t conn y-there y-same) x)
          asked-on place r is own (farewell h m to m-at avail unused) =
              let u : ClientState = record p.state { requests = p.state.requests + 1 } in
              subst (λ g. IsTold (client_after client moment p.state g) s) (sym is) (told-now moment r.purpose s r.stream u to (sym own))
          asked-on place r is own (hello to g) = elim (g.own refl) [
            | inl kept ↦ absurd (k.uses.apart host conn kept.0 s c-at kept.1)
            | inr free ↦ absurd (let none = free.unused host conn c-at in omega (arith, none, x))
          ]

          spoken : a.last ≡ None → (b.last ≡ None) ⊎ IsTold (client_after client moment p.state f) s
          spoken none = by-speaks (speaks s f)
            where
              by-speaks : Speaks s f → (b.last ≡ None) ⊎ IsTold (client_after client moment p.state f) s
              by-speaks (off n) = inl (none-stays n none)
              by-speaks (on place r is own) = inr (asked-on place r is own (asking client p old moment s a f place r is own i.rule i.turn i.at k))

      returned : conn_stream_at p.state host conn ≡ Some s → (op c t : ℕ) (errored : Bool) (e : PoolEntry) (n : ℕ) → f ≡ fact.CheckedIn op host c errored → e ≡ pool.CheckedIn t c errored →
          (x : CommandState) → slice_get p.state.commands op ≡ Some x → x.check_out ≡ Has host t c → e ≡ pool.CheckedIn n conn false → b.last ≡ None
      returned c-at op c t errored e n is e-is x there out e-was =
          let both : pool.CheckedIn t c errored ≡ pool.CheckedIn n conn false = sym e-is ∙ e-was in
          let own : c ≡ conn = (cc) in
          let so : errored ≡ false = (cc) in
          let in-turn = returned-turn p.owed op host c errored (subst (InTurn p.owed) is i.turn) in
          none-stays (λ place r q o. absurd (let no = sym is ∙ q in cc))
          (k.given op x host t conn there (out ∙ ap (Has host t) own) c-at (subst (λ y. IsIn (owed.CheckedIn op y) p.owed) so in-turn))

      of-kind : conn_stream_at p.state host conn ≡ Some s → (e : PoolEntry) → Kind p.state f host e → (n : ℕ) → e ≡ pool.CheckedIn n conn false → b.last ≡ None
      of-kind c-at e (settles op c t stale is e-is) n e-was = absurd (let no : pool.Settled t c stale ≡ pool.CheckedIn n conn false = sym e-is ∙ e-was in cc)
      of-kind c-at e (move.returns op c t errored is e-is x there out) n e-was = returned c-at op c t errored e n is e-is x there out e-was
      of-kind c-at e (others q) n e-was = absurd (let no : false ≡ true = sym (ap move.is_other e-was) ∙ q in cc)

      by : conn_stream_at p.state host conn ≡ Some s → Moves p.state moment f host (old host) → (b.last ≡ None) ⊎ IsTold (client_after client moment p.state f) s
      by c-at (still none nil) =
          let same : new host ≡ old host = i.pools host ∙ still-next (old host) host moment (pool_step p.state f) none in
          was c-at (subst (λ (q : Place Pool PoolEntry). 1 ≤ times_available conn q.state.available) same j)
      by c-at (goes e step x there is stands kind) = owed-by (old host).owed refl
        where
          now : new host ≡ next_place pool_judge (old host) (record { at = moment; what = e })
          now = i.pools host ∙ goes-next (old host) host moment (pool_step p.state f) e step

          owed-by : (ds : List PoolEntry) → (old host).owed ≡ ds → (b.last ≡ None) ⊎ IsTold (client_after client moment p.state f) s
          owed-by [] none =
              elim (available-from (old host).state moment e conn
              (subst (λ (q : Place Pool PoolEntry). 1 ≤ times_available conn q.state.available) (now ∙ next-unowed (old host) moment e none) j)) [
                | inl x ↦ was c-at x
                | inr x ↦ inl (of-kind c-at e kind x.0 x.1)
              ]
          owed-by (d ∷ ds) some = was c-at (subst (λ (q : Place Pool PoolEntry). 1 ≤ times_available conn q.state.available) (now ∙ next-owed (old host) moment e d ds some) j)

  pub keeps-step : Keeps (point_after client p (record { at = moment; what = f })) new s b
  keeps-step = record {
    uses = uses-step client p moment f i.rule k.uses;
    ordered = ordered-step client moment p.state f p.owed i.turn k.ordered;
    counts = λ y.
        let h = waits-step client p moment f y (old y) i.turn (moves client p old moment f i.rule i.at y) (k.counts y) in
        let same = ap (λ (q : Place Pool PoolEntry). length q.owed) (i.pools y) in
        omega (arith, h, same);
    greets = greets-step (ToGreet p.state old s a) (ToGreet (client_after client moment p.state f) new s b) client moment p.state f p.owed greet-time greet-check greet-dial k.greets;
    rest = rest-step;
    past = past-step;
    given = given-step;
    sent = sent-step;
    lent = lent-step;
    available = available-step;
  }

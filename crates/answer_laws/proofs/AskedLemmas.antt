-- The last request of a stream is that of the command which asked on it and has its connection still.
use Rattle.std.proofs.Common.{◌≡◌, ◌⊎◌, inl, inr, ℕ, ◌+◌, Bool, true, false, cond, eqb, ◌++◌, drop, Option, None, Some, refl, sym, ap, ◌∙◌, subst}
use Rattle.std.specs.Prelude.{length, nat_le, slice_get, if◌then◌else◌}
use Rattle.std.specs.Option.{option_and_then, option_map}
use Rattle.std.proofs.lemmas.Bool.{eq-eqb}
use Rattle.std.proofs.lemmas.Bool.Decides.{eqb_tells}
use Rattle.entry_judge.specs.Groups.{Stands}
use Rattle.pool_book.specs.Entries.{PoolEntry}
use Rattle.pool_book.specs.Entries as pool
use Rattle.pool_book.specs.Judge.{pool_judge}
use Rattle.pool_book.specs.Pool.{held_of}
use Rattle.topo_rules.specs.declared.event.TopoEvent.{TopoEvent}
use Rattle.topo_rules.specs.declared.event.TopoEvent.TheVariants as topo_event
use Rattle.write_retry.specs.Machine.{allows}
use Rattle.write_retry.specs.Machine as machine
use Rattle.write_retry.specs.declared.attempt_end.AttemptEnd.{AttemptEnd}
use Rattle.write_retry.specs.declared.attempt_end.AttemptEnd.TheVariants as attempt
use Rattle.write_retry.specs.declared.events.Next.TheVariants as next
use Rattle.write_retry.specs.declared.events.OpEvent.{OpEvent}
use Rattle.write_retry.specs.declared.events.OpEvent.TheVariants as event
use Rattle.write_retry.specs.declared.events.Unsent.{Unsent}
use Rattle.write_retry.specs.declared.events.Unsent.TheVariants as unsent
use Rattle.desk_trail.specs.declared.entry.CheckHow.{CheckHow}
use Rattle.desk_trail.specs.declared.entry.CheckHow.TheVariants as check
use Rattle.desk_trail.specs.declared.request.Purpose.{Purpose}
use Rattle.desk_trail.specs.declared.request.Purpose.TheVariants as purpose
use Rattle.desk_trail.specs.declared.request.Request.{Request}
use Rattle.desk_trail.specs.Attempts.{AtCommand, CommandAllows, IsEnd, asked_by, asked_event, command_step, commands_after, is_lent}
use Rattle.desk_trail.specs.Checks.{kept_at}
use Rattle.desk_trail.specs.Clients.{Client}
use Rattle.desk_trail.specs.Facts.{Fact}
use Rattle.desk_trail.specs.Facts as fact
use Rattle.desk_trail.specs.Holds.{HasAt}
use Rattle.desk_trail.specs.Legal.{IsLast, MayGoOn, MayStand, Point, client_after, owes, pool_after, stays_at}
use Rattle.desk_trail.specs.Owed.{InTurn, left_owed}
use Rattle.desk_trail.specs.Pools.{PoolAllows, at_host, check_out_of, lost_with, pool_step, ticket_dialling, ticket_with}
use Rattle.desk_trail.specs.Requests.{IsAsked, IsFor, IsRequestOf, farewell_by}
use Rattle.desk_trail.specs.States.{CheckOut, ClientState, CommandState, Dials, Has, Nothing, ServerState, Waits, number_of, stream_of}
use Rattle.desk_trail.specs.Streams.{Account, check_stream_of, conn_stream_at, held_stream, mention_of, stream_at, with_mention}
use Rattle.desk_trail.specs.Streams as told
use Rattle.answer_laws.proofs.AccountLemmas.{asks-last, asks-other, ended-last, tells-other}
use Rattle.answer_laws.proofs.ChangeLemmas.{Becomes, asks, becomes, ends, ends_of, is_move, moves, stays, was}
use Rattle.answer_laws.proofs.OwedLemmas.{Greets, greets-behind, greets-first, hello-stream, is_greeting_for, none-owes}
use Rattle.answer_laws.proofs.PoolLemmas.{IsPool, not-next, not-pending, unowed}
use Rattle.answer_laws.proofs.ServerLemmas.{conns-kept, dialled-at}
use Rattle.answer_laws.proofs.ServerLemmas as line
use Rattle.answer_laws.proofs.UseLemmas.{Uses, begun-stream}

-- ---- What laws say of a client at a place of a trail

pub record Lawful (w : ClientState) : Type 0 where
  pub pools : (host : ℕ) (s : ServerState) → slice_get w.servers host ≡ Some s → IsPool s.pool
  pub has : (op : ℕ) (c : CommandState) (host ticket conn : ℕ) → slice_get w.commands op ≡ Some c → c.check_out ≡ Has host ticket conn → HasAt w host ticket conn
  pub one : (a b : ℕ) (x y : CommandState) (host s t conn : ℕ) → slice_get w.commands a ≡ Some x → slice_get w.commands b ≡ Some y → x.check_out ≡ Has host s conn →
      y.check_out ≡ Has host t conn → a ≡ b

-- ---- A stream in use: a command asked, and a connection is lent to it

pub record InUse (w : ClientState) (op s : ℕ) : Type 0 where
  pub running : CommandState
  pub there : slice_get w.commands op ≡ Some running
  pub asked : ℕ
  pub since : running.asked ≡ Some asked
  pub host : ℕ
  pub ticket : ℕ
  pub conn : ℕ
  pub lent : running.check_out ≡ Has host ticket conn
  pub at : conn_stream_at w host conn ≡ Some s

abbrev pub IsIdle : ClientState → ℕ → Type 0
IsIdle w s = (op : ℕ) → InUse w op s → ⊥

-- ---- Entries of pools

record Standing (w : ClientState) (moment host : ℕ) (e : PoolEntry) : Type 0 where
  pub server : ServerState
  pub there : slice_get w.servers host ≡ Some server
  pub stands : Stands pool_judge server.pool (record { at = moment; what = e })

standing : (mk : ℕ → PoolEntry) (w : ClientState) (moment host : ℕ) (o : Option ℕ) → PoolAllows w moment (at_host host (option_map mk o)) →
    (number : ℕ) × Standing w moment host (mk number)
standing mk w moment host None a = absurd a
standing mk w moment host (Some n) a = (n, record { server = a.0; there = a.1; stands = a.2 })

-- a lent connection is not dialled
not-dialled : (w : ClientState) → Lawful w → (moment k x n : ℕ) (stream : Option ℕ) → PoolAllows w moment (pool_step w (fact.Dialled k x n stream)) →
    (op : ℕ) (c : CommandState) (ticket : ℕ) → slice_get w.commands op ≡ Some c → c.check_out ≡ Has x ticket n → ⊥
not-dialled w l moment k x n stream a op c ticket there lent =
    let s = standing (λ t. pool.Dialled t n) w moment x (option_and_then (ticket_with x) (check_out_of w k)) a in
    let at = s.1 in
    let q = l.pools x at.server at.there in
    let m = unowed at.server.pool.state at.server.pool.owed moment (pool.Dialled s.0 n) refl q.calm at.stands in
    let h = l.has op c x ticket n there lent in
    let both : Some h.server ≡ Some at.server = sym h.there ∙ at.there in
    let one : h.server ≡ at.server = (cc) in
    not-next at.server.pool.state n h.lent.held q.sound (subst (λ (s : ServerState). held_of n s.pool.state.lent ≡ Some h.lent.held) one h.lent.found) m.5

-- it does not settle
not-settled : (w : ClientState) → Lawful w → (moment k x n : ℕ) (stale : Bool) → PoolAllows w moment (pool_step w (fact.Settled k x n stale)) →
    (op : ℕ) (c : CommandState) (ticket : ℕ) → slice_get w.commands op ≡ Some c → c.check_out ≡ Has x ticket n → ⊥
not-settled w l moment k x n stale a op c ticket there lent =
    let s = standing (λ t. pool.Settled t n stale) w moment x (option_and_then (ticket_dialling x n) (check_out_of w k)) a in
    let at = s.1 in
    let q = l.pools x at.server at.there in
    let m = unowed at.server.pool.state at.server.pool.owed moment (pool.Settled s.0 n stale) refl q.calm at.stands in
    let h = l.has op c x ticket n there lent in
    let both : Some h.server ≡ Some at.server = sym h.there ∙ at.there in
    let one : h.server ≡ at.server = (cc) in
    not-pending at.server.pool.state n h.lent.held m.0 q.sound (subst (λ (s : ServerState). held_of n s.pool.state.lent ≡ Some h.lent.held) one h.lent.found) m.1

-- and is not lost
record Losing (w : ClientState) (moment x s : ℕ) : Type 0 where
  pub ticket : ℕ
  pub conn : ℕ
  pub at : conn_stream_at w x conn ≡ Some s
  pub stands : Standing w moment x (pool.NotLent ticket (pool.Lost conn))

losing : (w : ClientState) (moment x s : ℕ) (o : Option CheckOut) → PoolAllows w moment (at_host x (option_and_then (lost_with x) o)) →
    option_and_then (held_stream w) o ≡ Some s → Losing w moment x s
losing w moment x s None a e = absurd a
losing w moment x s (Some Nothing) a e = absurd a
losing w moment x s (Some (Waits host ticket)) a e = absurd a
losing w moment x s (Some (Has host ticket conn)) a e = absurd a
losing w moment x s (Some (Dials host ticket conn)) a e = elim (eqb_tells host x) [
  | inl y ↦
      let b : PoolAllows w moment (Some (x, pool.NotLent ticket (pool.Lost conn))) =
      subst (λ b. PoolAllows w moment (at_host x (cond b (Some (pool.NotLent ticket (pool.Lost conn))) None))) y.0 a in
      record { ticket = ticket; conn = conn; at = ap (λ h. conn_stream_at w h conn) (sym y.1) ∙ e; stands = record { server = b.0; there = b.1; stands = b.2 } }
  | inr y ↦ absurd (subst (λ b. PoolAllows w moment (at_host x (cond b (Some (pool.NotLent ticket (pool.Lost conn))) None))) y.0 a)
]

not-lost : (w : ClientState) → Lawful w → (moment x s : ℕ) → (g : Losing w moment x s) → (op : ℕ) (c : CommandState) (ticket : ℕ) → slice_get w.commands op ≡ Some c →
    c.check_out ≡ Has x ticket g.conn → ⊥
not-lost w l moment x s g op c ticket there lent =
    let at = g.stands in
    let q = l.pools x at.server at.there in
    let m = unowed at.server.pool.state at.server.pool.owed moment (pool.NotLent g.ticket (pool.Lost g.conn)) refl q.calm at.stands in
    let h = l.has op c x ticket g.conn there lent in
    let both : Some h.server ≡ Some at.server = sym h.there ∙ at.there in
    let one : h.server ≡ at.server = (cc) in
    not-pending at.server.pool.state g.conn h.lent.held m.0 q.sound (subst (λ (s : ServerState). held_of g.conn s.pool.state.lent ≡ Some h.lent.held) one h.lent.found) m.1

-- what is lent of the same stream is lent as the same connection
lent-as : (w : ClientState) → Uses w → (op s host conn : ℕ) → (u : InUse w op s) → conn_stream_at w host conn ≡ Some s → u.running.check_out ≡ Has host u.ticket conn
lent-as w uses op s host conn u e =
    let same = uses.one host conn u.host u.conn s e u.at in
    subst (λ h. u.running.check_out ≡ Has h u.ticket conn) (sym same.0) (subst (λ c. u.running.check_out ≡ Has u.host u.ticket c) (sym same.1) u.lent)

-- ---- What an entry says of a stream in use leaves its last request

-- a request of a command
asked-again : (client : Client) (w : ClientState) (time : Option ℕ) (k : ℕ) (r : Request) → Lawful w → Uses w → IsRequestOf client w time k r → (op : ℕ) → InUse w op r.stream → ⊥
asked-again client w time k r l uses q op u =
    let at : conn_stream_at w q.sends.host q.sends.conn ≡ Some r.stream = ap (option_and_then (λ (s : ServerState). stream_of s q.sends.conn)) q.sends.at ∙ q.stream in
    let lent = lent-as w uses op r.stream q.sends.host q.sends.conn u at in
    let same : k ≡ op = l.one k op q.sends.running u.running q.sends.host q.sends.ticket u.ticket q.sends.conn q.sends.there u.there q.sends.lent lent in
    let both : Some q.sends.running ≡ Some u.running = sym q.sends.there ∙ ap (slice_get w.commands) same ∙ u.there in
    let one : q.sends.running ≡ u.running = (cc) in
    let no : None ≡ Some u.asked = sym q.sends.unasked ∙ ap (λ (c : CommandState). c.asked) one ∙ u.since in
    absurd (cc)

farewell-ends : (moment : ℕ) (p : Purpose) (stream : ℕ) (u : ClientState) → p ≡ purpose.Farewell →
    (commands_after (asked_event p) (asked_by moment p (farewell_by p stream u))).is_ending ≡ true
farewell-ends moment purpose.Farewell stream u e = refl
farewell-ends moment (purpose.Command op) stream u e = absurd (cc)
farewell-ends moment (purpose.Check host) stream u e = absurd (cc)
farewell-ends moment (purpose.Greeting host conn) stream u e = absurd (cc)

asked-kept : (client : Client) (p : Point) (moment place op s : ℕ) (r : Request) (a : Account) (to : Purpose) → r.purpose ≡ to → IsAsked client p.state moment p.time place r →
    InTurn p.owed (fact.Asked place r) → Lawful p.state → Uses p.state → Greets (IsIdle p.state) p.owed → InUse p.state op s →
    (client_after client moment p.state (fact.Asked place r)).is_ending ≡ false → (with_mention s a (told.Asks r)).last ≡ a.last
asked-kept client p moment place op s r a (purpose.Command k) e i turn l uses g u going =
    let q : IsRequestOf client p.state p.time k r = subst (λ y. IsFor client p.state moment p.time y r) e i.is_for in
    asks-other s a r (λ same. asked-again client p.state p.time k r l uses q op (subst (InUse p.state op) (sym same) u))
asked-kept client p moment place op s r a (purpose.Check host) e i turn l uses g u going =
    asks-other s a r (λ same. hello-stream (IsIdle p.state) p.owed place r (ap is_greeting_for e) turn g op (subst (InUse p.state op) (sym same) u))
asked-kept client p moment place op s r a (purpose.Greeting host conn) e i turn l uses g u going =
    asks-other s a r (λ same. hello-stream (IsIdle p.state) p.owed place r (ap is_greeting_for e) turn g op (subst (InUse p.state op) (sym same) u))
asked-kept client p moment place op s r a purpose.Farewell e i turn l uses g u going =
    let v : ClientState = record p.state { requests = p.state.requests + 1 } in
    let no : false ≡ true = sym going ∙ farewell-ends moment r.purpose r.stream v e in
    absurd (cc)

checked-kept : (w : ClientState) (op s host : ℕ) (a : Account) (h : CheckHow) → Uses w → InUse w op s → (with_mention s a (told.of_check w host h)).last ≡ a.last
checked-kept w op s host a (check.Reply sample) uses u = refl
checked-kept w op s host a (check.Refused code) uses u = tells-other s a (kept_at w host) (told.Answered (told.HelloRefused code (nat_le told.MOST_HOSTS (length w.servers)))) (λ e. uses.apart u.host u.conn host s u.at e)
checked-kept w op s host a check.Cut uses u = ended-last s a (kept_at w host) _
checked-kept w op s host a check.Fault uses u = ended-last s a (kept_at w host) _
checked-kept w op s host a check.Late uses u = ended-last s a (kept_at w host) _
checked-kept w op s host a (check.Bad at) uses u = ended-last s a (kept_at w host) _
checked-kept w op s host a check.NoDial uses u = refl

offered-kept : (w : ClientState) (op s : ℕ) (a : Account) (e : TopoEvent) → Uses w → InUse w op s → (with_mention s a (told.of_offered w e)).last ≡ a.last
offered-kept w op s a (topo_event.Reply description sample) uses u = tells-other s a (check_stream_of w description) (told.Answered (told.Hello description)) (by (number_of w description.host))
  where
    by : (o : Option ℕ) → option_and_then (kept_at w) o ≡ Some s → ⊥
    by None h = absurd (cc)
    by (Some n) h = uses.apart u.host u.conn n s u.at h
offered-kept w op s a (topo_event.Broken host generation) uses u = refl
offered-kept w op s a (topo_event.Refused host version generation shutdown) uses u = refl

not_lent-kept : (client : Client) (w : ClientState) (moment op s k x : ℕ) (why : Unsent) (a : Account) → PoolAllows w moment (pool_step w (fact.NotLent k x why)) → Lawful w → Uses w →
    InUse w op s → (with_mention s a (told.of_not_lent client w moment k why)).last ≡ a.last
not_lent-kept client w moment op s k x unsent.PoolLate a al l uses u = refl
not_lent-kept client w moment op s k x (unsent.PoolCleared generation) a al l uses u = refl
not_lent-kept client w moment op s k x (unsent.PoolClosed host) a al l uses u = refl
not_lent-kept client w moment op s k x (unsent.Dial bad) a al l uses u = ended-last s a (stream_at w k) _
not_lent-kept client w moment op s k x (unsent.Greeting code) a al l uses u =
    tells-other s a (stream_at w k) (told.Answered (told.Refused code)) (λ e.
    let g = losing w moment x s (check_out_of w k) al e in
    not-lost w l moment x s g op u.running u.ticket u.there (lent-as w uses op s x g.conn u g.at))
not_lent-kept client w moment op s k x (unsent.TooLarge size most) a al l uses u = refl

-- a command that ends an attempt by itself has its connection
pub record Ending (w : ClientState) (k : ℕ) : Type 0 where
  pub running : CommandState
  pub there : slice_get w.commands k ≡ Some running
  pub asked : ℕ
  pub since : running.asked ≡ Some asked
  pub host : ℕ
  pub ticket : ℕ
  pub conn : ℕ
  pub lent : running.check_out ≡ Has host ticket conn

lent-is : (h : CheckOut) → is_lent h ≡ true → (host : ℕ) × (ticket : ℕ) × (conn : ℕ) × (h ≡ Has host ticket conn)
lent-is Nothing e = absurd (cc)
lent-is (Waits host ticket) e = absurd (cc)
lent-is (Dials host ticket conn) e = absurd (cc)
lent-is (Has host ticket conn) e = (host, ticket, conn, refl)

pub ending : (client : Client) (w : ClientState) (moment k : ℕ) (end : AttemptEnd) → AtCommand w k (IsEnd client moment end) → Ending w k
ending client w moment k end a =
    let h = lent-is a.0.check_out a.2.lent in
    record { running = a.0; there = a.1; asked = a.2.asked; since = a.2.since; host = h.0; ticket = h.1; conn = h.2; lent = h.3 }

pub ending-stream : (w : ClientState) (k : ℕ) → (g : Ending w k) → stream_at w k ≡ conn_stream_at w g.host g.conn
ending-stream w k g =
    ap (λ o. option_and_then (held_stream w) (option_map (λ (c : CommandState). c.check_out) o)) g.there ∙ ap (held_stream w) g.lent

ended-kept : (client : Client) (p : Point) (moment op s k : ℕ) (end : AttemptEnd) (a : Account) → MayStand client p moment (fact.Ended k end) → Lawful p.state → Uses p.state →
    InUse p.state op s → eqb k op ≡ false → (with_mention s a (told.of_end p.state k end)).last ≡ a.last
ended-kept client p moment op s k (attempt.Replied reading) a m l uses u n =
    let w = p.state in
    tells-other s a (stream_at w k) (told.Answered (told.Reply reading)) (λ e.
    let g = ending client w moment k (attempt.Replied reading) m in
    let at : conn_stream_at w g.host g.conn ≡ Some s = sym (ending-stream w k g) ∙ e in
    let same : k ≡ op = l.one k op g.running u.running g.host g.ticket u.ticket g.conn g.there u.there g.lent (lent-as w uses op s g.host g.conn u at) in
    let no : false ≡ true = sym n ∙ eq-eqb k op same in
    absurd (cc))
ended-kept client p moment op s k attempt.Cut a m l uses u n = ended-last s a (stream_at p.state k) _
ended-kept client p moment op s k attempt.Fault a m l uses u n = ended-last s a (stream_at p.state k) _
ended-kept client p moment op s k attempt.TimedOut a m l uses u n = ended-last s a (stream_at p.state k) _
ended-kept client p moment op s k (attempt.Bad at) a m l uses u n = ended-last s a (stream_at p.state k) _
ended-kept client p moment op s k (attempt.Unsent why) a m l uses u n = refl

last-kept : (client : Client) (p : Point) (moment : ℕ) (f : Fact) (op s : ℕ) (a : Account) → MayStand client p moment f → InTurn p.owed f → Lawful p.state → Uses p.state →
    Greets (IsIdle p.state) p.owed → InUse p.state op s → ends_of f op ≡ false → (client_after client moment p.state f).is_ending ≡ false →
    (with_mention s a (mention_of client p.state moment f)).last ≡ a.last
last-kept client p moment (fact.Asked place r) op s a m turn l uses g u n going = asked-kept client p moment place op s r a r.purpose refl m turn l uses g u going
last-kept client p moment (fact.CheckEnded host h) op s a m turn l uses g u n going = checked-kept p.state op s host a h uses u
last-kept client p moment (fact.Offered place e taken) op s a m turn l uses g u n going = offered-kept p.state op s a e uses u
last-kept client p moment (fact.Settled k x c stale) op s a m turn l uses g u n going =
    tells-other s a (conn_stream_at p.state x c) (told.Answered told.Greeted) (λ e.
    not-settled p.state l moment k x c stale m op u.running u.ticket u.there (lent-as p.state uses op s x c u e))
last-kept client p moment (fact.NotLent k x why) op s a m turn l uses g u n going = not_lent-kept client p.state moment op s k x why a m l uses u
last-kept client p moment (fact.Ended k end) op s a m turn l uses g u n going = ended-kept client p moment op s k end a m l uses u n
last-kept client p moment f op s a m turn l uses g u n going = refl

-- ---- The command ahead of the entry

-- a command that asked reads its reply
abbrev pub Reads : ClientState → Type 0
Reads w = (op : ℕ) (c : CommandState) (m : ℕ) → slice_get w.commands op ≡ Some c → c.asked ≡ Some m → c.op.next ≡ next.Read

unmoved : (e : OpEvent) → is_move e ≡ true → allows next.Read e ≡ true → ⊥
unmoved (event.Chosen host numbered) m a = absurd (cc)
unmoved event.NoServer m a = absurd (cc)
unmoved (event.Incompatible host min max) m a = absurd (cc)
unmoved event.Lent m a = absurd (cc)
unmoved event.Sent m a = absurd (cc)
unmoved (event.Unsent u) m a = absurd (cc)
unmoved (event.Replied reading) m a = absurd (cc)
unmoved event.Cut m a = absurd (cc)
unmoved event.Fault m a = absurd (cc)
unmoved event.TimedOut m a = absurd (cc)
unmoved (event.Bad at) m a = absurd (cc)

-- it was so
pub record WasSo (w : ClientState) (f : Fact) (op m host ticket conn : ℕ) : Type 0 where
  pub running : CommandState
  pub there : slice_get w.commands op ≡ Some running
  pub since : running.asked ≡ Some m
  pub lent : running.check_out ≡ Has host ticket conn
  pub goes : ends_of f op ≡ false

-- or asks now
pub record AsksNow (w : ClientState) (f : Fact) (op host ticket conn : ℕ) : Type 0 where
  pub place : ℕ
  pub request : Request
  pub is : f ≡ fact.Asked place request
  pub is_for : request.purpose ≡ purpose.Command op
  pub running : CommandState
  pub there : slice_get w.commands op ≡ Some running
  pub lent : running.check_out ≡ Has host ticket conn

was-so : (client : Client) (w : ClientState) (moment : ℕ) (f : Fact) → CommandAllows w (command_step client w f) → Reads w → (op m host ticket conn : ℕ) (d : CommandState) →
    slice_get (client_after client moment w f).commands op ≡ Some d → d.asked ≡ Some m → d.check_out ≡ Has host ticket conn → WasSo w f op m host ticket conn ⊎ AsksNow w f op host ticket conn
was-so client w moment f al reads op m host ticket conn d there since lent =
    let o = was client moment w f op d there in
    by o.old o.there (subst (Becomes f op o.old) (sym o.is) (becomes client moment w f op o.old o.there al))
  where
    by : (c : CommandState) → slice_get w.commands op ≡ Some c → Becomes f op c d → WasSo w f op m host ticket conn ⊎ AsksNow w f op host ticket conn
    by c at (stays n asked same held) = inl (record { running = c; there = at; since = sym asked ∙ since; lent = held host ticket conn lent; goes = n })
    by c at (moves e allowed move asked same) =
        absurd (unmoved e move (subst (λ y. allows y e ≡ true) (reads op c m at (sym asked ∙ since)) allowed))
    by c at (asks place r is to same held) = inr (record { place = place; request = r; is = is; is_for = to; running = c; there = at; lent = sym held ∙ lent })
    by c at (ends end is none same) = let no : None ≡ Some m = sym none ∙ since in absurd (cc)

pub reads-step : (client : Client) (w : ClientState) (moment : ℕ) (f : Fact) → CommandAllows w (command_step client w f) → Reads w → Reads (client_after client moment w f)
reads-step client w moment f al reads op d m there since =
    let o = was client moment w f op d there in
    by o.old o.there (subst (Becomes f op o.old) (sym o.is) (becomes client moment w f op o.old o.there al))
  where
    by : (c : CommandState) → slice_get w.commands op ≡ Some c → Becomes f op c d → d.op.next ≡ next.Read
    by c at (stays n asked same held) = ap (λ (x : machine.Op). x.next) same ∙ reads op c m at (sym asked ∙ since)
    by c at (moves e allowed move asked same) =
        absurd (unmoved e move (subst (λ y. allows y e ≡ true) (reads op c m at (sym asked ∙ since)) allowed))
    by c at (asks place r is to same held) = ap (λ (x : machine.Op). x.next) same
    by c at (ends end is none same) = let no : None ≡ Some m = sym none ∙ since in absurd (cc)

-- ---- Streams in use, behind an entry

stays-conn : (client : Client) (p : Point) (moment : ℕ) (f : Fact) (op host ticket conn : ℕ) (c : CommandState) → MayStand client p moment f → Lawful p.state →
    slice_get p.state.commands op ≡ Some c → c.check_out ≡ Has host ticket conn → conn_stream_at (client_after client moment p.state f) host conn ≡ conn_stream_at p.state host conn
stays-conn client p moment (fact.Dialled k x n stream) op host ticket conn c m l there lent = by (dialled-at client moment p.state k x n stream host conn)
  where
    w : ClientState
    w = p.state

    v : ClientState
    v = client_after client moment w (fact.Dialled k x n stream)

    by : line.Dials w v x n stream host conn → conn_stream_at v host conn ≡ conn_stream_at w host conn
    by (line.other e) = e
    by (line.own h i e) =
        absurd (not-dialled w l moment k x n stream m.1 op c ticket there
        (subst (λ y. c.check_out ≡ Has y ticket n) h (subst (λ y. c.check_out ≡ Has host ticket y) i lent)))
stays-conn client p moment f op host ticket conn c m l there lent = conns-kept client moment p.state f host conn refl

-- the stream of a hello that is owed behind it is in no use
idle-began : (client : Client) (p : Point) (moment host stream : ℕ) → MayStand client p moment (fact.CheckBegan host stream) → Uses p.state → Reads p.state →
    IsIdle (client_after client moment p.state (fact.CheckBegan host stream)) stream
idle-began client p moment host stream m uses reads op u =
    let w = p.state in
    let at : conn_stream_at w u.host u.conn ≡ Some stream = sym (conns-kept client moment w (fact.CheckBegan host stream) u.host u.conn refl) ∙ u.at in
    elim (begun-stream client p moment host stream m) [
      | inl k ↦ let no : true ≡ false = sym (uses.conns u.host u.conn stream at) ∙ k.1 in absurd (cc)
      | inr k ↦ uses.apart u.host u.conn host stream at k
    ]

idle-dialled : (client : Client) (p : Point) (moment k x n stream : ℕ) → MayStand client p moment (fact.Dialled k x n (Some stream)) → Uses p.state → Reads p.state → Lawful p.state →
    IsIdle (client_after client moment p.state (fact.Dialled k x n (Some stream))) stream
idle-dialled client p moment k x n stream m uses reads l op u =
    elim (was-so client p.state moment (fact.Dialled k x n (Some stream)) tt reads op u.asked u.host u.ticket u.conn u.running u.there u.since u.lent) [
      | inl s ↦
          let at : conn_stream_at p.state u.host u.conn ≡ Some stream =
          sym (stays-conn client p moment (fact.Dialled k x n (Some stream)) op u.host u.ticket u.conn s.running m l s.there s.lent) ∙ u.at in
          let no : true ≡ false = sym (uses.conns u.host u.conn stream at) ∙ m.0 in
          absurd (cc)
      | inr s ↦ absurd (let no = s.is in cc)
    ]

pub greets-step : (client : Client) (p : Point) (moment : ℕ) (f : Fact) → MayStand client p moment f → Uses p.state → Reads p.state → Lawful p.state →
    Greets (IsIdle p.state) p.owed → Greets (IsIdle (client_after client moment p.state f)) (owes client moment p.state f ++ left_owed p.owed f)
greets-step client p moment (fact.Time stamp) m uses reads l g = g
greets-step client p moment (fact.CheckBegan host stream) m uses reads l g =
    greets-first (IsIdle (client_after client moment p.state (fact.CheckBegan host stream))) _ stream _ (drop 1 p.owed) (idle-began client p moment host stream m uses reads) g.rest
greets-step client p moment (fact.Dialled k x n (Some stream)) m uses reads l g =
    greets-first (IsIdle (client_after client moment p.state (fact.Dialled k x n (Some stream)))) _ stream _ (drop 1 p.owed) (idle-dialled client p moment k x n stream m uses reads l) g.rest
greets-step client p moment (fact.Dialled k x n None) m uses reads l g =
    let f = fact.Dialled k x n None in
    greets-behind (IsIdle (client_after client moment p.state f)) p.owed (owes client moment p.state f) g.rest (none-owes client moment p.state f refl)
greets-step client p moment f m uses reads l g =
    greets-behind (IsIdle (client_after client moment p.state f)) p.owed (owes client moment p.state f) g.rest (none-owes client moment p.state f refl)

-- ---- The last request of each

pub record Awaits (w : ClientState) (accounts : ℕ → Account) (op host conn : ℕ) : Type 0 where
  pub stream : ℕ
  pub at : conn_stream_at w host conn ≡ Some stream
  pub request : Request
  pub last : (accounts stream).last ≡ Some request
  pub is_for : request.purpose ≡ purpose.Command op

abbrev pub AllAwait : ClientState → (ℕ → Account) → Type 0
AllAwait w accounts = (op : ℕ) (c : CommandState) (m host ticket conn : ℕ) → slice_get w.commands op ≡ Some c → c.asked ≡ Some m → c.check_out ≡ Has host ticket conn →
    Awaits w accounts op host conn

-- the one that is asked now
awaits-now : (client : Client) (p : Point) (moment : ℕ) (f : Fact) (op host ticket conn : ℕ) (old new : ℕ → Account) → MayStand client p moment f → Lawful p.state →
    ((s : ℕ) → new s ≡ with_mention s (old s) (mention_of client p.state moment f)) → AsksNow p.state f op host ticket conn →
    Awaits (client_after client moment p.state f) new op host conn
awaits-now client p moment f op host ticket conn old new m l tells s =
    let w = p.state in
    let r = s.request in
    let i : IsAsked client w moment p.time s.place r = subst (λ y. MayStand client p moment y) s.is m in
    let q : IsRequestOf client w p.time op r = subst (λ y. IsFor client w moment p.time y r) s.is_for i.is_for in
    let both : Some q.sends.running ≡ Some s.running = sym q.sends.there ∙ s.there in
    let one : q.sends.running ≡ s.running = (cc) in
    let lent : Has q.sends.host q.sends.ticket q.sends.conn ≡ Has host ticket conn = sym q.sends.lent ∙ ap (λ (c : CommandState). c.check_out) one ∙ s.lent in
    let h : q.sends.host ≡ host = (cc) in
    let c : q.sends.conn ≡ conn = (cc) in
    let at : conn_stream_at w q.sends.host q.sends.conn ≡ Some r.stream = ap (option_and_then (λ (x : ServerState). stream_of x q.sends.conn)) q.sends.at ∙ q.stream in
    let here : conn_stream_at w host conn ≡ Some r.stream = subst (λ y. conn_stream_at w y conn ≡ Some r.stream) h (subst (λ y. conn_stream_at w q.sends.host y ≡ Some r.stream) c at) in
    record {
      stream = r.stream;
      at = stays-conn client p moment f op host ticket conn s.running m l s.there s.lent ∙ here;
      request = r;
      last = ap (λ (a : Account). a.last) (tells r.stream)
          ∙ ap (λ y. (with_mention r.stream (old r.stream) (mention_of client w moment y)).last) s.is ∙ asks-last r.stream (old r.stream) r refl;
      is_for = s.is_for;
    }

pub awaits-step : (client : Client) (p : Point) (moment : ℕ) (f : Fact) (old new : ℕ → Account) → MayStand client p moment f → InTurn p.owed f →
    CommandAllows p.state (command_step client p.state f) → Lawful p.state → Uses p.state → Reads p.state → Greets (IsIdle p.state) p.owed →
    (client_after client moment p.state f).is_ending ≡ false →
    ((s : ℕ) → new s ≡ with_mention s (old s) (mention_of client p.state moment f)) → AllAwait p.state old → AllAwait (client_after client moment p.state f) new
awaits-step client p moment f old new m turn al l uses reads g going tells h op d asked host ticket conn there since lent =
    elim (was-so client p.state moment f al reads op asked host ticket conn d there since lent) [
      | inl s ↦
          let x = h op s.running asked host ticket conn s.there s.since s.lent in
          let u : InUse p.state op x.stream =
          record { running = s.running; there = s.there; asked = asked; since = s.since; host = host; ticket = ticket; conn = conn; lent = s.lent; at = x.at } in
          record {
            stream = x.stream;
            at = stays-conn client p moment f op host ticket conn s.running m l s.there s.lent ∙ x.at;
            request = x.request;
            last = ap (λ (a : Account). a.last) (tells x.stream) ∙ last-kept client p moment f op x.stream (old x.stream) m turn l uses g u s.goes going ∙ x.last;
            is_for = x.is_for;
          }
      | inr s ↦ awaits-now client p moment f op host ticket conn old new m l tells s
    ]

-- ---- A client that does not end yet

ending-stays : (client : Client) (w : ClientState) (moment : ℕ) (f : Fact) → IsLast f → w.is_ending ≡ true → (client_after client moment w f).is_ending ≡ true
ending-stays client w moment (fact.PoolShut host) i e = by (stays_at (slice_get w.servers host))
  where
    u : ClientState
    u = pool_after w moment (fact.PoolShut host)

    by : (b : Bool) → (if b then record u { is_ending = true } else u).is_ending ≡ true
    by true = refl
    by false = e
ending-stays client w moment (fact.ConnShut host conn reason) i e = e
ending-stays client w moment (fact.Asked place r) i e =
    let v : ClientState = record w { requests = w.requests + 1 } in
    farewell-ends moment r.purpose r.stream v i
ending-stays client w moment f i e = absurd i

pub not-ending : (client : Client) (w : ClientState) (moment : ℕ) (f : Fact) → MayGoOn w.is_ending f → (client_after client moment w f).is_ending ≡ false → w.is_ending ≡ false
not-ending client w moment f going e = by w.is_ending refl
  where
    by : (b : Bool) → w.is_ending ≡ b → w.is_ending ≡ false
    by false h = h
    by true h =
        let no : true ≡ false = sym (ending-stays client w moment f (subst (λ b. MayGoOn b f) h going) h) ∙ e in
        absurd (cc)

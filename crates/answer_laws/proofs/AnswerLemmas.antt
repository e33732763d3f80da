-- Where a command was answered ok, or may be, one of its requests was answered so.
use Rattle.std.proofs.Common.{◌≡◌, ◌<◌, ℕ, zero, suc, Bool, true, false, List, [], ◌∷◌, ◌++◌, length, map, Option, None, Some, refl, sym, ap, ◌∙◌, subst, arith}
use Rattle.std.specs.Prelude.{ℤ, slice_get, slice_index_or, if◌then◌else◌}
use Rattle.std.specs.Option.{option_map}
use Rattle.std.proofs.lemmas.List.{append-nil, append_assoc}
use Rattle.std.proofs.lemmas.Option.{slice_get-map}
use Rattle.entry_judge.specs.declared.timed.Timed.{Timed}
use Rattle.entry_judge.specs.Judge.{Legal}
use Rattle.entry_judge.specs.LegalLaws.{Legal-append, Legal-front, Legal-rest, state_after-append}
use Rattle.pool_book.specs.Judge.{IsTrail, place_behind}
use Rattle.cmd_build.specs.declared.command.Command.{Command}
use Rattle.cmd_outcome.specs.declared.reading.ReplyResult.{ReplyResult}
use Rattle.cmd_outcome.specs.declared.reading.ReplyResult.TheVariants as reply
use Rattle.write_retry.specs.Histories.{end_of}
use Rattle.write_retry.specs.Machine.{Op, after, after_first, answer_without, chosen_by, ended_by}
use Rattle.write_retry.specs.Outcomes.{is_ok, said_by}
use Rattle.write_retry.specs.Verdict.{again, given, is_lesser, said, said_unsent}
use Rattle.write_retry.specs.declared.attempt_end.AttemptEnd.{AttemptEnd}
use Rattle.write_retry.specs.declared.attempt_end.AttemptEnd.TheVariants as attempt
use Rattle.write_retry.specs.declared.events.Next.TheVariants as next
use Rattle.write_retry.specs.declared.events.OpEvent.{OpEvent}
use Rattle.write_retry.specs.declared.events.OpEvent.TheVariants as event
use Rattle.write_retry.specs.declared.events.Unsent.{Unsent}
use Rattle.write_retry.specs.declared.events.Unsent.TheVariants as unsent
use Rattle.write_retry.specs.declared.outcome.Outcome.{Outcome}
use Rattle.write_retry.specs.declared.outcome.Outcome.TheVariants as outcome
use Rattle.desk_trail.specs.Attempts.{end_event}
use Rattle.desk_trail.specs.Clients.{Client, pool_rules}
use Rattle.desk_trail.specs.Facts.{Fact}
use Rattle.desk_trail.specs.Facts as fact
use Rattle.desk_trail.specs.Holds.{HasAt}
use Rattle.desk_trail.specs.Legal.{AreLegal, MayGoOn, MayStand, Point, StandsAt, beginning, client_after, point_after, point_behind}
use Rattle.desk_trail.specs.Owed.{Owed}
use Rattle.desk_trail.specs.Owed as owed
use Rattle.desk_trail.specs.Parts.{pool_part}
use Rattle.desk_trail.specs.States.{ClientState, CommandState, Has, ServerState, fresh_command}
use Rattle.desk_trail.specs.Streams.{Account, account, mention_of, stream_at, with_mention}
use Rattle.desk_trail.specs.Streams as told
use Rattle.answer_laws.specs.Answers.{HasOkReply, IsReportedOk}
use Rattle.answer_laws.proofs.AccountLemmas.{account-with, replied, reply-kept, reply-stays}
use Rattle.answer_laws.proofs.AskedLemmas.{AllAwait, IsIdle, Lawful, Reads, awaits-step, ending, ending-stream, greets-step, not-ending, reads-step}
use Rattle.answer_laws.proofs.ChangeLemmas.{Becomes, asks, becomes, ends, is_move, moves, stays, was}
use Rattle.answer_laws.proofs.OwedLemmas.{Greets, NoHello, greets-none}
use Rattle.answer_laws.proofs.PoolLemmas.{pool-of}
use Rattle.answer_laws.proofs.UseLemmas.{Uses, uses-begins, uses-step}

-- ---- A command on its way

-- where its first attempt ended ok, or its answer is ok, that has a ground
pub record IsBacked (R : Type 0) (c : Op) : Type 0 where
  pub first : (end : AttemptEnd) → c.first ≡ Some end → is_ok (said end) ≡ true → R
  pub answer : (o : Outcome) → c.next ≡ next.Answer o → is_ok o ≡ true → R

backed-more : (R Q : Type 0) (c : Op) → (R → Q) → IsBacked R c → IsBacked Q c
backed-more R Q c f b = record { first = λ end e i. f (b.first end e i); answer = λ o e i. f (b.answer o e i) }

-- the first attempt stays, and the answer is what it says, or none
backed-next : (R : Type 0) (c d : Op) → d.first ≡ c.first → ((o : Outcome) → d.next ≡ next.Answer o → is_ok o ≡ true → R) → IsBacked R c → IsBacked R d
backed-next R c d e n b = record { first = λ end i k. b.first end (sym e ∙ i) k; answer = n }

answer-is : (a o : Outcome) → next.Answer a ≡ next.Answer o → a ≡ o
answer-is a o e = (cc)

chosen-backed : (R : Type 0) (host : ℕ) (numbered : Bool) (c : Op) (o : Option AttemptEnd) → c.first ≡ o → IsBacked R c → IsBacked R (chosen_by host numbered o c)
chosen-backed R host numbered c None e b = backed-next R c (chosen_by host numbered None c) refl (λ o i k. absurd (cc)) b
chosen-backed R host true c (Some first) e b = backed-next R c (chosen_by host true (Some first) c) refl (λ o i k. absurd (cc)) b
chosen-backed R host false c (Some first) e b =
    backed-next R c (chosen_by host false (Some first) c) refl (λ o i k. b.first first e (ap is_ok (answer-is (said first) o i) ∙ k)) b

without-backed : (R : Type 0) (x : Outcome) (c : Op) → is_ok x ≡ false → IsBacked R c → (o : Option AttemptEnd) → c.first ≡ o → (a : Outcome) → answer_without x o ≡ next.Answer a → is_ok a ≡ true → R
without-backed R x c n b None e a i k = let no : false ≡ true = sym n ∙ ap is_ok (answer-is x a i) ∙ k in absurd (cc)
without-backed R x c n b (Some first) e a i k = b.first first e (ap is_ok (answer-is (said first) a i) ∙ k)

after-backed : (R : Type 0) (drew : Bool) (end : AttemptEnd) → (is_ok (said end) ≡ true → R) → (o : Outcome) → after_first drew end ≡ next.Answer o → is_ok o ≡ true → R
after-backed R drew end r o = by (again drew end)
  where
    by : (b : Bool) → (if b then next.Select else next.Answer (said end)) ≡ next.Answer o → is_ok o ≡ true → R
    by true i k = absurd (cc)
    by false i k = r (ap is_ok (answer-is (said end) o i) ∙ k)

given-backed : (R : Type 0) (first second : AttemptEnd) → (is_ok (said first) ≡ true → R) → (is_ok (said second) ≡ true → R) → is_ok (given first second) ≡ true → R
given-backed R first second f s = by (is_lesser second)
  where
    by : (b : Bool) → is_ok (if b then said first else said second) ≡ true → R
    by true k = f k
    by false k = s k

ended-backed : (R : Type 0) (end : AttemptEnd) (c : Op) → (is_ok (said end) ≡ true → R) → IsBacked R c → (o : Option AttemptEnd) → c.first ≡ o → IsBacked R (ended_by end o c)
ended-backed R end c r b None e = record {
  first = λ x i k. let same : end ≡ x = (cc) in r (ap (λ y. is_ok (said y)) same ∙ k);
  answer = after-backed R c.drew end r;
}
ended-backed R end c r b (Some first) e =
    backed-next R c (ended_by end (Some first) c) refl
    (λ o i k. given-backed R first end (b.first first e) r (ap is_ok (answer-is (given first end) o i) ∙ k)) b

pub backed-after : (R : Type 0) (c : Op) (e : OpEvent) → ((end : AttemptEnd) → end_of e ≡ Some end → is_ok (said end) ≡ true → R) → IsBacked R c → IsBacked R (after c e)
backed-after R c (event.Chosen host numbered) r b = chosen-backed R host numbered c c.first refl b
backed-after R c event.NoServer r b = backed-next R c (after c event.NoServer) refl (without-backed R outcome.NoServer c refl b c.first refl) b
backed-after R c (event.Incompatible host min max) r b =
    backed-next R c (after c (event.Incompatible host min max)) refl (without-backed R (outcome.Incompatible host min max) c refl b c.first refl) b
backed-after R c event.Lent r b = backed-next R c (after c event.Lent) refl (λ o i k. absurd (cc)) b
backed-after R c event.Sent r b = backed-next R c (after c event.Sent) refl (λ o i k. absurd (cc)) b
backed-after R c (event.Unsent u) r b = ended-backed R (attempt.Unsent u) c (r (attempt.Unsent u) refl) b c.first refl
backed-after R c (event.Replied reading) r b = ended-backed R (attempt.Replied reading) c (r (attempt.Replied reading) refl) b c.first refl
backed-after R c event.Cut r b = ended-backed R attempt.Cut c (r attempt.Cut refl) b c.first refl
backed-after R c event.Fault r b = ended-backed R attempt.Fault c (r attempt.Fault refl) b c.first refl
backed-after R c event.TimedOut r b = ended-backed R attempt.TimedOut c (r attempt.TimedOut refl) b c.first refl
backed-after R c (event.Bad at) r b = ended-backed R (attempt.Bad at) c (r (attempt.Bad at) refl) b c.first refl

-- ---- An attempt that ended ok

record OkSaid (r : ReplyResult) : Type 0 where
  pub n : ℤ
  pub modified : ℤ
  pub is : r ≡ reply.Ok n modified

ok-said : (r : ReplyResult) → is_ok (said_by r) ≡ true → OkSaid r
ok-said (reply.Ok n modified) e = record { n = n; modified = modified; is = refl }
ok-said (reply.WriteErrors count first) e = absurd (cc)
ok-said (reply.Concern code) e = absurd (cc)
ok-said (reply.Error code) e = absurd (cc)

unsent-not : (u : Unsent) → is_ok (said_unsent u) ≡ true → ⊥
unsent-not unsent.PoolLate e = absurd (cc)
unsent-not (unsent.PoolCleared generation) e = absurd (cc)
unsent-not (unsent.PoolClosed host) e = absurd (cc)
unsent-not (unsent.Dial bad) e = absurd (cc)
unsent-not (unsent.Greeting code) e = absurd (cc)
unsent-not (unsent.TooLarge size most) e = absurd (cc)

-- is a reply to a request of the command
replied-ok : (client : Client) (xs : List (Timed Fact)) (t : Timed Fact) (p : Point) (moment op : ℕ) (end : AttemptEnd) → MayStand client p moment (fact.Ended op end) →
    AllAwait p.state (λ s. account client s xs) →
    ((s : ℕ) → account client s (xs ++ t ∷ []) ≡ with_mention s (account client s xs) (mention_of client p.state moment (fact.Ended op end))) →
    is_ok (said end) ≡ true → HasOkReply client (xs ++ t ∷ []) op
replied-ok client xs t p moment op (attempt.Replied reading) m awaits tells e =
    let g = ending client p.state moment op (attempt.Replied reading) m in
    let x = awaits op g.running g.asked g.host g.ticket g.conn g.there g.since g.lent in
    let said = ok-said reading.result e in
    let at : stream_at p.state op ≡ Some x.stream = ending-stream p.state op g ∙ x.at in
    let old = account client x.stream xs in
    record {
      stream = x.stream;
      nth = length old.answered;
      exchange = record { request = x.request; says = told.Reply reading };
      there = ap (λ (a : Account). slice_get a.answered (length old.answered)) (tells x.stream) ∙ replied x.stream old (stream_at p.state op) (told.Reply reading) x.request at x.last;
      is_for = x.is_for;
      reading = reading;
      says = refl;
      n = said.n;
      modified = said.modified;
      ok = said.is;
    }
replied-ok client xs t p moment op attempt.Cut m awaits tells e = absurd (cc)
replied-ok client xs t p moment op attempt.Fault m awaits tells e = absurd (cc)
replied-ok client xs t p moment op attempt.TimedOut m awaits tells e = absurd (cc)
replied-ok client xs t p moment op (attempt.Bad at) m awaits tells e = absurd (cc)
replied-ok client xs t p moment op (attempt.Unsent u) m awaits tells e = absurd (unsent-not u e)

-- ---- Along a trail

abbrev pub AreBacked : Client → List (Timed Fact) → ClientState → Type 0
AreBacked client ts w = (op : ℕ) (c : CommandState) → slice_get w.commands op ≡ Some c → IsBacked (HasOkReply client ts op) c.op

move-ends-not : (e : OpEvent) (end : AttemptEnd) → is_move e ≡ true → end_of e ≡ Some end → ⊥
move-ends-not (event.Chosen host numbered) end m i = absurd (cc)
move-ends-not event.NoServer end m i = absurd (cc)
move-ends-not (event.Incompatible host min max) end m i = absurd (cc)
move-ends-not event.Lent end m i = absurd (cc)
move-ends-not event.Sent end m i = absurd (cc)
move-ends-not (event.Unsent u) end m i = absurd (cc)
move-ends-not (event.Replied reading) end m i = absurd (cc)
move-ends-not event.Cut end m i = absurd (cc)
move-ends-not event.Fault end m i = absurd (cc)
move-ends-not event.TimedOut end m i = absurd (cc)
move-ends-not (event.Bad at) end m i = absurd (cc)

event-end : (end : AttemptEnd) → end_of (end_event end) ≡ Some end
event-end (attempt.Replied reading) = refl
event-end attempt.Cut = refl
event-end attempt.Fault = refl
event-end attempt.TimedOut = refl
event-end (attempt.Bad at) = refl
event-end (attempt.Unsent u) = refl

-- no attempt ends of a client that ends
still-going : (b : Bool) (op : ℕ) (end : AttemptEnd) → MayGoOn b (fact.Ended op end) → b ≡ false
still-going false op end g = refl
still-going true op end g = absurd g

backed-step : (client : Client) (xs : List (Timed Fact)) (t : Timed Fact) (p : Point) → StandsAt client p t →
    ((s : ℕ) → account client s (xs ++ t ∷ []) ≡ with_mention s (account client s xs) (mention_of client p.state t.at t.what)) →
    (p.state.is_ending ≡ false → AllAwait p.state (λ s. account client s xs)) → AreBacked client xs p.state → AreBacked client (xs ++ t ∷ []) (client_after client t.at p.state t.what)
backed-step client xs t p stands tells awaits b op d there =
    let o = was client t.at p.state t.what op d there in
    by o.old o.there (subst (Becomes t.what op o.old) (sym o.is) (becomes client t.at p.state t.what op o.old o.there stands.command))
  where
    R : Type 0
    R = HasOkReply client (xs ++ t ∷ []) op

    more : (c : CommandState) → slice_get p.state.commands op ≡ Some c → IsBacked R c.op
    more c at = backed-more (HasOkReply client xs op) R c.op (reply-kept client xs t op) (b op c at)

    ok : (end : AttemptEnd) → t.what ≡ fact.Ended op end → is_ok (said end) ≡ true → R
    ok end is e =
        let going = still-going p.state.is_ending op end (subst (MayGoOn p.state.is_ending) is stands.going) in
        replied-ok client xs t p t.at op end (subst (MayStand client p t.at) is stands.rule) (awaits going)
        (subst (λ f. (s : ℕ) → account client s (xs ++ t ∷ []) ≡ with_mention s (account client s xs) (mention_of client p.state t.at f)) is tells) e

    by : (c : CommandState) → slice_get p.state.commands op ≡ Some c → Becomes t.what op c d → IsBacked R d.op
    by c at (stays n asked same held) = subst (IsBacked R) (sym same) (more c at)
    by c at (moves e allowed move asked same) =
        subst (IsBacked R) (sym same) (backed-after R c.op e (λ end i k. absurd (move-ends-not e end move i)) (more c at))
    by c at (asks place r is to same held) =
        subst (IsBacked R) (sym same) (backed-after R c.op event.Sent (λ end i k. absurd (cc)) (more c at))
    by c at (ends end is none same) =
        subst (IsBacked R) (sym same) (backed-after R c.op (end_event end)
        (λ x i k.
        let both : Some end ≡ Some x = sym (event-end end) ∙ i in
        let one : end ≡ x = (cc) in
        ok end is (ap (λ y. is_ok (said y)) one ∙ k)) (more c at))

-- what holds at a place
pub record Holds (client : Client) (ts : List (Timed Fact)) (p : Point) : Type 0 where
  pub uses : Uses p.state
  pub greets : Greets (IsIdle p.state) p.owed
  pub reads : Reads p.state
  pub awaits : p.state.is_ending ≡ false → AllAwait p.state (λ s. account client s ts)
  pub backed : AreBacked client ts p.state

holds-step : (client : Client) (xs : List (Timed Fact)) (t : Timed Fact) (p : Point) → StandsAt client p t → Lawful p.state →
    ((s : ℕ) → account client s (xs ++ t ∷ []) ≡ with_mention s (account client s xs) (mention_of client p.state t.at t.what)) →
    Holds client xs p → Holds client (xs ++ t ∷ []) (point_after client p t)
holds-step client xs t p stands l tells h = record {
  uses = uses-step client p t.at t.what stands.rule h.uses;
  greets = greets-step client p t.at t.what stands.rule h.uses h.reads l h.greets;
  reads = reads-step client p.state t.at t.what stands.command h.reads;
  awaits = λ going. awaits-step client p t.at t.what (λ s. account client s xs) (λ s. account client s (xs ++ t ∷ [])) stands.rule stands.turn stands.command l h.uses h.reads h.greets going tells
      (h.awaits (not-ending client p.state t.at t.what stands.going going));
  backed = backed-step client xs t p stands tells h.awaits h.backed;
}

-- ---- At the beginning

named-none : (client : Client) → NoHello (beginning client).owed
named-none client = by client.settings.hosts
  where
    by : (xs : List _) → NoHello (map (λ address. owed.Named address) xs)
    by [] = tt
    by (x ∷ xs) = (refl, by xs)

record Fresh (c : CommandState) : Type 0 where
  pub asked : c.asked ≡ None
  pub first : c.op.first ≡ None
  pub next : c.op.next ≡ next.Select

fresh-in : (o : Option Command) (c : CommandState) → option_map fresh_command o ≡ Some c → Fresh c
fresh-in None c e = absurd (cc)
fresh-in (Some x) c e =
    let same : fresh_command x ≡ c = (cc) in
    subst Fresh same (record { asked = refl; first = refl; next = refl })

fresh-at : (client : Client) (op : ℕ) (c : CommandState) → slice_get (beginning client).state.commands op ≡ Some c → Fresh c
fresh-at client op c there = fresh-in (slice_get client.commands op) c (sym (slice_get-map fresh_command client.commands op) ∙ there)

holds-begins : (client : Client) → Holds client [] (beginning client)
holds-begins client = record {
  uses = uses-begins client;
  greets = greets-none (IsIdle (beginning client).state) (beginning client).owed (named-none client);
  reads = λ op c m there since. let f = fresh-at client op c there in let no : None ≡ Some m = sym f.asked ∙ since in absurd (cc);
  awaits = λ going op c m host ticket conn there since lent. let f = fresh-at client op c there in let no : None ≡ Some m = sym f.asked ∙ since in absurd (cc);
  backed = λ op c there. record {
    first = λ end e k. let f = fresh-at client op c there in let no : None ≡ Some end = sym f.first ∙ e in absurd (cc);
    answer = λ o e k. let f = fresh-at client op c there in let no : next.Select ≡ next.Answer o = sym f.next ∙ e in absurd (cc);
  };
}

-- ---- What the laws of desk_trail say at each place

abbrev pub PoolTrails : Type 0
PoolTrails = (client : Client) (ts : List (Timed Fact)) (host : ℕ) → AreLegal client ts → IsTrail (pool_rules client) (pool_part client host ts)

abbrev pub PoolPlaces : Type 0
PoolPlaces = (client : Client) (ts : List (Timed Fact)) (host : ℕ) (s : ServerState) → AreLegal client ts → slice_get (point_behind client ts).state.servers host ≡ Some s →
    s.pool ≡ place_behind (pool_rules client) (pool_part client host ts)

abbrev pub AreWhere : Type 0
AreWhere = (client : Client) (ts : List (Timed Fact)) (op : ℕ) (c : CommandState) (host ticket conn : ℕ) → AreLegal client ts → slice_get (point_behind client ts).state.commands op ≡ Some c →
    c.check_out ≡ Has host ticket conn → HasAt (point_behind client ts).state host ticket conn

abbrev pub OneBorrower : Type 0
OneBorrower = (client : Client) (ts : List (Timed Fact)) (a b : ℕ) (x y : CommandState) (host s t conn : ℕ) → AreLegal client ts → slice_get (point_behind client ts).state.commands a ≡ Some x →
    slice_get (point_behind client ts).state.commands b ≡ Some y → x.check_out ≡ Has host s conn → y.check_out ≡ Has host t conn → a ≡ b

pub record Known : Type 0 where
  pub trails : PoolTrails
  pub places : PoolPlaces
  pub where_held : AreWhere
  pub one : OneBorrower

lawful : Known → (client : Client) (ts : List (Timed Fact)) → AreLegal client ts → Lawful (point_behind client ts).state
lawful k client ts l = record {
  pools = λ host s there. pool-of (pool_rules client) (pool_part client host ts) s.pool (k.trails client ts host l) (k.places client ts host s l there);
  has = λ op c host ticket conn there lent. k.where_held client ts op c host ticket conn l there lent;
  one = λ a b x y host s t conn i j e f. k.one client ts a b x y host s t conn l i j e f;
}

-- ---- Each place

holds-from : Known → (client : Client) (xs ys : List (Timed Fact)) → AreLegal client xs → Legal (StandsAt client) (point_after client) (point_behind client xs) ys →
    Holds client xs (point_behind client xs) → Holds client (xs ++ ys) (point_behind client (xs ++ ys))
holds-from k client xs [] l m h = subst (λ ts. Holds client ts (point_behind client ts)) (sym (append-nil xs)) h
holds-from k client xs (y ∷ ys) l m h =
    let p = point_behind client xs in
    let to : point_behind client (xs ++ y ∷ []) ≡ point_after client p y = state_after-append (point_after client) (beginning client) xs (y ∷ []) in
    let all : AreLegal client (xs ++ y ∷ []) = Legal-append (StandsAt client) (point_after client) (beginning client) xs (y ∷ []) l (m.0, tt) in
    subst (λ ts. Holds client ts (point_behind client ts)) (append_assoc xs (y ∷ []) ys)
    (holds-from k client (xs ++ y ∷ []) ys all
    (subst (λ q. Legal (StandsAt client) (point_after client) q ys) (sym to) m.1)
    (subst (Holds client (xs ++ y ∷ [])) (sym to) (holds-step client xs y p m.0 (lawful k client xs l) (λ s. account-with client s xs y) h)))

holds : Known → (client : Client) (ts : List (Timed Fact)) → AreLegal client ts → Holds client ts (point_behind client ts)
holds k client ts l = holds-from k client [] ts tt l (holds-begins client)

-- ---- The law

record Parted (xs : List (Timed Fact)) (x : Timed Fact) : Type 0 where
  pub before : List (Timed Fact)
  pub behind : List (Timed Fact)
  pub is : xs ≡ before ++ x ∷ behind

parted : (xs : List (Timed Fact)) (x : Timed Fact) (k : ℕ) → k < length xs → slice_index_or xs k x ≡ x → Parted xs x
parted [] x k l e = absurd (omega (arith, l))
parted (y ∷ ys) x zero l e = record { before = []; behind = ys; is = ap (λ z. z ∷ ys) e }
parted (y ∷ ys) x (suc k) l e =
    let p = parted ys x k (omega (arith, l)) e in
    record { before = y ∷ p.before; behind = p.behind; is = ap (λ zs. y ∷ zs) p.is }

pub ok-has-reply : Known → (client : Client) (facts : List (Timed Fact)) (op : ℕ) → AreLegal client facts → IsReportedOk facts op → HasOkReply client facts op
ok-has-reply k client facts op l r =
    let o = outcome.Ok r.n r.modified in
    let t : Timed Fact = record { at = r.moment; what = fact.Finished op o } in
    let p = parted facts t r.told.0 r.told.1 r.told.2 in
    let all : AreLegal client (p.before ++ t ∷ p.behind) = subst (AreLegal client) p.is l in
    let front = Legal-front (StandsAt client) (point_after client) (beginning client) p.before (t ∷ p.behind) all in
    let rest = Legal-rest (StandsAt client) (point_after client) (beginning client) p.before (t ∷ p.behind) all in
    let rule = rest.0.rule in
    let h = holds k client p.before front in
    let reply = (h.backed op rule.0 rule.1).answer o rule.2.answers refl in
    subst (λ ts. HasOkReply client ts op) (sym p.is) (reply-stays client p.before (t ∷ p.behind) op reply)

-- What the events of a command do to what it is to do next.
use Rattle.std.specs.Prelude.{is_some, if◌then◌else◌}
use Rattle.std.proofs.Common.{◌≡◌, ℕ, ℤ, Bool, true, false, not, ◌&&◌, Option, None, Some, refl, sym, ap, ◌∙◌}
use Rattle.write_retry.specs.Histories.{is_select}
use Rattle.write_retry.specs.Machine.{Op, after, after_first, allows, answer_without, chosen, chosen_by, ended, ended_by}
use Rattle.write_retry.specs.Verdict.{again, said}
use Rattle.write_retry.specs.declared.attempt_end.AttemptEnd.{AttemptEnd}
use Rattle.write_retry.specs.declared.attempt_end.AttemptEnd.TheVariants as attempt
use Rattle.write_retry.specs.declared.events.Next.{Next}
use Rattle.write_retry.specs.declared.events.Next.TheVariants as next
use Rattle.write_retry.specs.declared.events.OpEvent.{OpEvent}
use Rattle.write_retry.specs.declared.events.OpEvent.TheVariants as event
use Rattle.write_retry.specs.declared.outcome.Outcome.{Outcome}
use Rattle.write_retry.specs.declared.outcome.Outcome.TheVariants as outcome
use Rattle.desk_trail.specs.States.{CheckOut, Dials, Has, Nothing, Waits}

-- ---- What is to be done next

abbrev pub is_answer : Next → Bool
is_answer (next.Answer o) = true
is_answer n = false

-- its request is to be queued, or waits for its answer
abbrev pub is_sent : Next → Bool
is_sent next.Send = true
is_sent next.Read = true
is_sent n = false

-- its request was queued, or it is answered
abbrev pub is_over : Next → Bool
is_over next.Read = true
is_over (next.Answer o) = true
is_over n = false

pub goes-on : (n : Next) (e : OpEvent) → allows n e ≡ true → is_answer n ≡ false
goes-on (next.Answer o) e a = absurd (cc)
goes-on next.Select e a = refl
goes-on (next.CheckOut host) e a = refl
goes-on next.Send e a = refl
goes-on next.Read e a = refl

selects : (n : Next) (host : ℕ) (numbered : Bool) → allows n (event.Chosen host numbered) ≡ true → n ≡ next.Select
selects next.Select host numbered a = refl
selects (next.CheckOut x) host numbered a = absurd (cc)
selects next.Send host numbered a = absurd (cc)
selects next.Read host numbered a = absurd (cc)
selects (next.Answer o) host numbered a = absurd (cc)

pub sends : (n : Next) → allows n event.Sent ≡ true → n ≡ next.Send
sends next.Select a = absurd (cc)
sends (next.CheckOut x) a = absurd (cc)
sends next.Send a = refl
sends next.Read a = absurd (cc)
sends (next.Answer o) a = absurd (cc)

-- ---- Without a number there is one request

-- it drew none, and its request was queued
pub record Shut (c : Op) : Type 0 where
  pub undrawn : c.drew ≡ false
  pub over : is_over c.next ≡ true

shut-ended : (end : AttemptEnd) (c : Op) → c.drew ≡ false → Shut (ended end c)
shut-ended end c u = by c.first
  where
    by : (f : Option AttemptEnd) → Shut (ended_by end f c)
    by None = record { undrawn = u; over = ap (λ d. is_over (after_first d end)) u }
    by (Some first) = record { undrawn = u; over = refl }

-- an event that is none of an end is not allowed
abbrev ends : OpEvent → Bool
ends (event.Chosen host numbered) = false
ends event.NoServer = false
ends (event.Incompatible host min max) = false
ends event.Lent = false
ends event.Sent = false
ends e = true

over-ends : (n : Next) (e : OpEvent) → is_over n ≡ true → allows n e ≡ true → ends e ≡ true
over-ends next.Read (event.Chosen host numbered) o a = absurd (cc)
over-ends next.Read event.NoServer o a = absurd (cc)
over-ends next.Read (event.Incompatible host min max) o a = absurd (cc)
over-ends next.Read event.Lent o a = absurd (cc)
over-ends next.Read event.Sent o a = absurd (cc)
over-ends next.Read (event.Unsent u) o a = refl
over-ends next.Read (event.Replied reading) o a = refl
over-ends next.Read event.Cut o a = refl
over-ends next.Read event.Fault o a = refl
over-ends next.Read event.TimedOut o a = refl
over-ends next.Read (event.Bad at) o a = refl
over-ends (next.Answer x) e o a = absurd (cc)
over-ends next.Select e o a = absurd (cc)
over-ends (next.CheckOut host) e o a = absurd (cc)
over-ends next.Send e o a = absurd (cc)

shut-by : (c : Op) (e : OpEvent) → Shut c → ends e ≡ true → Shut (after c e)
shut-by c (event.Chosen host numbered) s x = absurd (cc)
shut-by c event.NoServer s x = absurd (cc)
shut-by c (event.Incompatible host min max) s x = absurd (cc)
shut-by c event.Lent s x = absurd (cc)
shut-by c event.Sent s x = absurd (cc)
shut-by c (event.Unsent u) s x = shut-ended (attempt.Unsent u) c s.undrawn
shut-by c (event.Replied reading) s x = shut-ended (attempt.Replied reading) c s.undrawn
shut-by c event.Cut s x = shut-ended attempt.Cut c s.undrawn
shut-by c event.Fault s x = shut-ended attempt.Fault c s.undrawn
shut-by c event.TimedOut s x = shut-ended attempt.TimedOut c s.undrawn
shut-by c (event.Bad at) s x = shut-ended (attempt.Bad at) c s.undrawn

pub shut-event : (c : Op) (e : OpEvent) → allows c.next e ≡ true → Shut c → Shut (after c e)
shut-event c e a s = shut-by c e s (over-ends c.next e s.over a)

pub shut-sent : (c : Op) → c.drew ≡ false → Shut (after c event.Sent)
shut-sent c u = record { undrawn = u; over = refl }

-- ---- A command that drew has its number once it holds a connection

-- it draws a number and has none
abbrev pub lacks : Op → Option ℤ → Bool
lacks o n = o.drew && not (is_some n)

abbrev pub is_out : CheckOut → Bool
is_out Nothing = false
is_out (Waits host ticket) = true
is_out (Dials host ticket conn) = true
is_out (Has host ticket conn) = true

pub record Ready (o : Op) (h : CheckOut) (n : Option ℤ) : Type 0 where
  pub idle : is_some o.first ≡ false → is_select o.next ≡ true → h ≡ Nothing
  pub out : is_out h ≡ true → lacks o n ≡ false
  pub sent : is_sent o.next ≡ true → lacks o n ≡ false

abbrev pub is_lending : OpEvent → Bool
is_lending event.Lent = true
is_lending e = false

first-sent : (drew : Bool) (end : AttemptEnd) → is_sent (after_first drew end) ≡ false
first-sent drew end = by (again drew end)
  where
    by : (b : Bool) → is_sent (if b then next.Select else next.Answer (said end)) ≡ false
    by true = refl
    by false = refl

without-sent : (x : Outcome) (f : Option AttemptEnd) → is_sent (answer_without x f) ≡ false
without-sent x None = refl
without-sent x (Some first) = refl

without-select : (x : Outcome) (f : Option AttemptEnd) → is_select (answer_without x f) ≡ false
without-select x None = refl
without-select x (Some first) = refl

clash : (b : Bool) → b ≡ false → b ≡ true → ⊥
clash b e f = let wrong : false ≡ true = sym e ∙ f in absurd (cc)

ready-chosen : (host : ℕ) (numbered : Bool) (o : Op) (h : CheckOut) (n : Option ℤ) → o.next ≡ next.Select → Ready o h n → Ready (chosen host numbered o) h n
ready-chosen host numbered o h n at r = by numbered o.first refl
  where
    by : (b : Bool) (f : Option AttemptEnd) → o.first ≡ f → Ready (chosen_by host b f o) h n
    by b None e =
        let free : h ≡ Nothing = r.idle (ap is_some e) (ap is_select at) in
        record { idle = λ x y. free; out = λ x. absurd (clash (is_out h) (ap is_out free) x); sent = λ x. absurd (cc) }
    by true (Some first) e = record { idle = λ x y. absurd (cc); out = r.out; sent = λ x. absurd (cc) }
    by false (Some first) e = record { idle = λ x y. absurd (cc); out = r.out; sent = λ x. absurd (cc) }

ready-failed : (x : Outcome) (o : Op) (h : CheckOut) (n : Option ℤ) → Ready o h n → Ready (record o { next = answer_without x o.first }) h n
ready-failed x o h n r = record {
  idle = λ y z. absurd (clash (is_select (answer_without x o.first)) (without-select x o.first) z);
  out = r.out;
  sent = λ y. absurd (clash (is_sent (answer_without x o.first)) (without-sent x o.first) y);
}

ready-ended : (end : AttemptEnd) (o : Op) (h : CheckOut) (n : Option ℤ) → Ready o h n → Ready (ended end o) h n
ready-ended end o h n r = by o.first
  where
    by : (f : Option AttemptEnd) → Ready (ended_by end f o) h n
    by None = record { idle = λ x y. absurd (cc); out = r.out; sent = λ x. absurd (clash (is_sent (after_first o.drew end)) (first-sent o.drew end) x) }
    by (Some first) = record { idle = λ x y. absurd (cc); out = r.out; sent = λ x. absurd (cc) }

pub ready-event : (o : Op) (h : CheckOut) (n : Option ℤ) (e : OpEvent) → allows o.next e ≡ true → (is_lending e ≡ true → is_out h ≡ true) → Ready o h n → Ready (after o e) h n
ready-event o h n (event.Chosen host numbered) a l r = ready-chosen host numbered o h n (selects o.next host numbered a) r
ready-event o h n event.NoServer a l r = ready-failed outcome.NoServer o h n r
ready-event o h n (event.Incompatible host min max) a l r = ready-failed (outcome.Incompatible host min max) o h n r
ready-event o h n event.Lent a l r = record { idle = λ x y. absurd (cc); out = r.out; sent = λ x. r.out (l refl) }
ready-event o h n event.Sent a l r = record { idle = λ x y. absurd (cc); out = r.out; sent = λ x. r.sent (ap is_sent (sends o.next a)) }
ready-event o h n (event.Unsent u) a l r = ready-ended (attempt.Unsent u) o h n r
ready-event o h n (event.Replied reading) a l r = ready-ended (attempt.Replied reading) o h n r
ready-event o h n event.Cut a l r = ready-ended attempt.Cut o h n r
ready-event o h n event.Fault a l r = ready-ended attempt.Fault o h n r
ready-event o h n event.TimedOut a l r = ready-ended attempt.TimedOut o h n r
ready-event o h n (event.Bad at) a l r = ready-ended (attempt.Bad at) o h n r

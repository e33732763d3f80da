-- Of which stream the entries of a command speak, and which say nothing of one.
use Rattle.std.proofs.Common.{◌≡◌, ℕ, List, Bool, true, false, Option, None, Some, sym, ap, ◌∙◌, subst, cond}
use Rattle.std.specs.Option.{option_and_then, option_map}
use Rattle.pool_book.specs.Entries.{CheckOutFailure}
use Rattle.pool_book.specs.Pool.{Pool, is_closed}
use Rattle.net_link.specs.declared.event.NetEvent.{NetEvent}
use Rattle.write_retry.specs.declared.attempt_end.AttemptEnd.{AttemptEnd}
use Rattle.write_retry.specs.declared.attempt_end.AttemptEnd.TheVariants as attempt
use Rattle.write_retry.specs.declared.events.Unsent.{Unsent}
use Rattle.write_retry.specs.declared.events.Unsent.TheVariants as unsent
use Rattle.desk_trail.specs.Clients.{Client}
use Rattle.desk_trail.specs.Facts as fact
use Rattle.desk_trail.specs.States.{ClientState, CommandState, ServerState, stream_of}
use Rattle.desk_trail.specs.Streams.{dialled_at, held_stream, is_past, stream_at}
use Rattle.desk_trail.specs.Streams as told
use Rattle.legal_trail.specs.Recorded.{Recorded}
use Rattle.wired_trail.specs.Hearing.{IsPlain, SpeaksOf, TellsHeard, WasHeard}
use Rattle.wired_trail.specs.Lines.{Lines}
use Rattle.cmd_step.specs.Ends.{IsBehindRequest}
use Rattle.cmd_step.specs.Losses.{HasDialled, IsLoss}
use Rattle.cmd_step.specs.Places.{AreAt}
use Rattle.cmd_step.specs.Refusals.{refusal_by}
use Rattle.cmd_step.specs.Settlings.{why_stale}
use Rattle.cmd_step.specs.declared.place.At.{At}

-- the stream of the connection that a command dialled
pub stream-dialled : (w : ClientState) (at : At) (conn : ℕ) (s : ServerState) (c : CommandState) → AreAt w at s c → HasDialled at conn s c → stream_at w at.op ≡ stream_of s conn
stream-dialled w at conn s c places dials =
    ap (λ o. option_and_then (held_stream w) (option_map (λ (x : CommandState). x.check_out) o)) places.command
    ∙ ap (held_stream w) dials.dials
    ∙ ap (option_and_then (λ (x : ServerState). stream_of x conn)) places.server

-- a loss speaks of it
pub lost-speaks : (client : Client) (w : ClientState) (moment op host : ℕ) (why : Unsent) (stream : Option ℕ) → IsLoss why → stream_at w op ≡ stream →
    SpeaksOf client w moment stream (fact.NotLent op host why)
lost-speaks client w moment op host (unsent.Dial bad) stream loss is = is
lost-speaks client w moment op host (unsent.Greeting code) stream loss is = is
lost-speaks client w moment op host unsent.PoolLate stream loss is = absurd loss
lost-speaks client w moment op host (unsent.PoolCleared g) stream loss is = absurd loss
lost-speaks client w moment op host (unsent.PoolClosed x) stream loss is = absurd loss
lost-speaks client w moment op host (unsent.TooLarge size most) stream loss is = absurd loss

-- where none was dialled nothing need be heard
pub unheard : (history : List NetEvent) (r : Recorded) (moment op host : ℕ) → stream_at r.point.state op ≡ None → TellsHeard history r moment (fact.NotLent op host (unsent.Dial false))
unheard history r moment op host none =
    subst (λ (s : Option ℕ). WasHeard history r (told.Tells s (told.Ended (told.Lost false (is_past r.client moment (dialled_at r.point.state op)))))) (sym none) tt

-- an end behind a request speaks of the stream of the connection that is lent
pub ended-speaks : (client : Client) (w : ClientState) (moment op : ℕ) (end : AttemptEnd) (stream : Option ℕ) → IsBehindRequest end → stream_at w op ≡ stream →
    SpeaksOf client w moment stream (fact.Ended op end)
ended-speaks client w moment op (attempt.Replied reading) stream behind is = is
ended-speaks client w moment op attempt.Cut stream behind is = is
ended-speaks client w moment op attempt.Fault stream behind is = is
ended-speaks client w moment op attempt.TimedOut stream behind is = is
ended-speaks client w moment op (attempt.Bad at) stream behind is = is
ended-speaks client w moment op (attempt.Unsent u) stream behind is = absurd behind

-- ---- Entries that say nothing of a stream

pub refusal-plain : (lines : Lines) (op host : ℕ) (why : Unsent) (f : CheckOutFailure) → refusal_by host why ≡ Some f → IsPlain lines (fact.NotLent op host why)
refusal-plain lines op host unsent.PoolLate f e = tt
refusal-plain lines op host (unsent.PoolCleared g) f e = tt
refusal-plain lines op host (unsent.PoolClosed x) f e = tt
refusal-plain lines op host (unsent.Dial bad) f e = absurd cc
refusal-plain lines op host (unsent.Greeting code) f e = absurd cc
refusal-plain lines op host (unsent.TooLarge size most) f e = absurd cc

stale-by : (lines : Lines) (op host x g : ℕ) (b : Bool) → IsPlain lines (fact.NotLent op host (cond b (unsent.PoolClosed x) (unsent.PoolCleared g)))
stale-by lines op host x g true = tt
stale-by lines op host x g false = tt

pub stale-plain : (lines : Lines) (op host : ℕ) (why : Unsent) (p : Pool) → why ≡ why_stale host p → IsPlain lines (fact.NotLent op host why)
stale-plain lines op host why p is =
    subst (λ u. IsPlain lines (fact.NotLent op host u)) (sym is) (stale-by lines op host host p.generation (is_closed p.state))

-- What was heard on a stream, for the proofs of the crates that tell of it.
use Rattle.std.proofs.Common.{◌≡◌, ℕ, ℤ, List, [], ◌∷◌, ◌++◌, Option, None, Some, refl, sym, ap, subst, arith}
use Rattle.std.specs.Option.{option_map}
use Rattle.std.proofs.lemmas.List.Elements.{Contains-append_right}
use Rattle.bson_doc.specs.declared.cluster_time.ClusterTime.{ClusterTime}
use Rattle.cmd_outcome.specs.Times.{time_in}
use Rattle.msg_wire.specs.declared.message.Message.{Message}
use Rattle.net_link.specs.Seen.{seen}
use Rattle.net_link.specs.declared.event.NetEvent.{NetEvent}
use Rattle.desk_wire.specs.declared.answers.Pulled.TheVariants as pulled
use Rattle.desk_trail.specs.Streams.{Mention, Result}
use Rattle.desk_trail.specs.Streams as told
use Rattle.legal_trail.specs.Recorded.{Recorded}
use Rattle.wired_trail.specs.Hearing.{Heard, IsHeard, WasHeard, told_of}
use Rattle.wired_trail.specs.Wired.{HasCome}
use Rattle.wired_trail.proofs.FitLemmas.{begins-snoc}

-- the cluster time of a message that was heard came
pub came-heard : (history : List NetEvent) (r : Recorded) (stream : ℕ) (m : Message) (id : ℤ) (time : ClusterTime) →
    Heard (pulled.Whole m) id (seen stream history) (told_of r stream) → time_in m.body ≡ Some time → HasCome history time.stamp
came-heard history r stream m id time h carries = record {
  stream = stream;
  messages = h.answers ++ m ∷ [];
  rest = [];
  came = begins-snoc (seen stream history).came h.answers h.rest m h.came h.gave.0;
  message = m;
  among = Contains-append_right h.answers (m ∷ []) m (0, omega arith, refl);
  carries = ap (option_map (λ (t : ClusterTime). t.stamp)) carries;
}

-- what was heard is so of a trail that says as much of the stream, and of a history that does
pub heard-same : (history later : List NetEvent) (r x : Recorded) (m : Mention) → ((s : ℕ) → seen s later ≡ seen s history) → ((s : ℕ) → told_of x s ≡ told_of r s) →
    WasHeard history r m → WasHeard later x m
heard-same history later r x (told.Asks request) views same h = h
heard-same history later r x (told.Tells None result) views same h = h
heard-same history later r x (told.Tells (Some s) result) views same h = record {
  answer = h.answer;
  id = h.id;
  heard = rw (views s, same s) h.heard;
  said = h.said;
}
heard-same history later r x told.Silent views same h = h

-- by the stream that it is of
pub heard-on : (history : List NetEvent) (r : Recorded) (stream : Option ℕ) (s : ℕ) (result : Result) → stream ≡ Some s → IsHeard history r s result →
    WasHeard history r (told.Tells stream result)
heard-on history r stream s result is h = subst (λ (o : Option ℕ). WasHeard history r (told.Tells o result)) (sym is) h

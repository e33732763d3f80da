-- What a command is to send, by what its request is made of.
use Rattle.std.proofs.Common.{◌≡◌, Option, None, Some, length, refl, ap, ◌∙◌}
use Rattle.std.specs.Option.{option_map}
use Rattle.std.specs.Result.{IfOk}
use Rattle.std.specs.declared.result.Result.{Result}
use Rattle.std.specs.declared.result.Result.TheVariants.{Ok, Err}
use Rattle.bson_doc.specs.declared.cluster_time.ClusterTime.{ClusterTime}
use Rattle.request_build.specs.Inputs.{Answers, AreInputs}
use Rattle.request_build.specs.declared.sending.CommandRequest.{CommandRequest}
use Rattle.request_build.specs.declared.sending.CommandRequest.TheVariants as sent
use Rattle.request_build.specs.declared.sending.SendAt.{SendAt}
use Rattle.request_build.specs.declared.sending.Sending.{Sending}
use Rattle.desk_trail.specs.Requests.{IsGreatest, id_at}
use Rattle.legal_trail.specs.Recorded.{Recorded}
use Rattle.desk_core.specs.Sending.{IsToSend}

pub IfOk-by : {A E : Type 0} (r : Result A E) (P Q : A → Type 0) → ((a : A) → P a → Q a) → IfOk r P → IfOk r Q
IfOk-by (Ok a) P Q f h = f a h
IfOk-by (Err e) P Q f h = tt

-- the greatest cluster time, by its stamp
pub IsGreatest-kept : (kept : Option ClusterTime) → IsGreatest (option_map (λ (t : ClusterTime). t.stamp) kept) kept
IsGreatest-kept None = tt
IsGreatest-kept (Some t) = refl

pub IsToSend-by : (r : Recorded) (i : Sending) (at : SendAt) (a : CommandRequest) → AreInputs r.client r.point.state r.point.time at.op i at.stream →
    at.place ≡ length r.lists.requests → r.point.state.requests ≡ length r.lists.requests → Answers i at a → IsToSend r at.op at.stream a
IsToSend-by r i at (sent.Made m) inputs place counted h = (
  record { counted = counted; id = h.id ∙ ap id_at place; is_for = h.is_for; is_of = h.is_of r.client r.point.state r.point.time inputs },
  h.again,
  h.on,
)
IsToSend-by r i at (sent.TooLarge size most) inputs place counted h = h r.client r.point.state r.point.time inputs

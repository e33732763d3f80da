-- Which messages the answers are that came on a stream.
use Rattle.std.proofs.Common.{◌≡◌, ℕ, ℤ, zero, suc, true, List, [], ◌∷◌, ◌++◌, map, Some, refl, sym, ap, ◌∙◌, subst}
use Rattle.std.specs.List.{slice_get}
use Rattle.cmd_outcome.specs.Replies.{reading_of}
use Rattle.cmd_outcome.specs.declared.reading.Reading.{Reading}
use Rattle.cmd_outcome.specs.declared.reading.ReplyResult.TheVariants as said
use Rattle.msg_wire.specs.Messages.{Begins, messages}
use Rattle.msg_wire.specs.declared.message.Message.{Message}
use Rattle.msg_wire.proofs.Partings.{messages-begin}
use Rattle.member_core.specs.Honest.{is_success, says_ok}
use Rattle.desk_trail.specs.declared.request.Request.{Request}
use Rattle.desk_trail.specs.Streams.{Exchange, Says}
use Rattle.desk_trail.specs.Streams as told
use Rattle.wired_trail.specs.Wired.{Answers, Means}

slice_get-front : {X : Type 0} (xs ys : List X) (n : ℕ) (x : X) → slice_get xs n ≡ Some x → slice_get (xs ++ ys) n ≡ Some x
slice_get-front [] ys n x e = absurd cc
slice_get-front (y ∷ xs) ys zero x e = e
slice_get-front (y ∷ xs) ys (suc n) x e = slice_get-front xs ys n x e

-- The request of an exchange is that of its number among all.
pub exchange_request : (xs : List Exchange) (more : List Request) (n : ℕ) (x : Exchange) → slice_get xs n ≡ Some x
    → slice_get (map (λ (y : Exchange). y.request) xs ++ more) n ≡ Some x.request
exchange_request [] more n x e = absurd cc
exchange_request (y ∷ xs) more zero x e = let same : y ≡ x = cc in ap (λ (z : Exchange). Some z.request) same
exchange_request (y ∷ xs) more (suc n) x e = exchange_request xs more n x e

-- The message that answers it, and what that means.
pub answer_at : (ms : List Message) (xs : List Exchange) (n : ℕ) (x : Exchange) → Answers ms xs → slice_get xs n ≡ Some x
    → (m : Message) × (slice_get ms n ≡ Some m) × Means m x.says
answer_at [] [] n x answers e = absurd cc
answer_at [] (y ∷ ys) n x answers e = absurd answers
answer_at (m ∷ ms) [] n x answers e = absurd answers
answer_at (m ∷ ms) (y ∷ ys) zero x answers e = let same : y ≡ x = cc in (m, refl, subst (λ (z : Exchange). Means m z.says) same answers.1)
answer_at (m ∷ ms) (y ∷ ys) (suc n) x answers e = answer_at ms ys n x answers.2 e

-- It is the message of its number in what came.
pub answer_came : (bytes : List ℕ) (ms : List Message) (rest : List ℕ) (n : ℕ) (m : Message) → Begins bytes ms rest → slice_get ms n ≡ Some m
    → slice_get (messages bytes) n ≡ Some m
answer_came bytes ms rest n m begins e =
    ap (λ (l : List Message). slice_get l n) (messages-begin bytes ms rest begins).0 ∙ slice_get-front ms (messages rest) n m e

-- A reply that reads as ok says ok.
pub means_ok : (m : Message) (says : Says) (reading : Reading) (n modified : ℤ) → Means m says → says ≡ told.Reply reading → reading.result ≡ said.Ok n modified
    → says_ok m.body ≡ true
means_ok m says reading n modified means is ok =
    let same : reading ≡ reading_of m.body = subst (Means m) is means in
    sym (ap (λ (r : Reading). is_success r.result) same) ∙ ap is_success ok

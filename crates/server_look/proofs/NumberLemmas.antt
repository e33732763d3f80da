-- Numbers of hosts, one after another.
use Rattle.std.proofs.Common.{◌≡◌, ◌<◌, ℕ, ◌+◌, List, [], ◌∷◌, ◌++◌, Some, sym, ap, ◌∙◌, subst, get_or, length, take}
use Rattle.std.proofs.lemmas.List.{take_more}
use Rattle.host_name.specs.Addresses.{Address}
use Rattle.desk_trail.specs.Looks.{AreNumbersOf}
use Rattle.desk_trail.specs.States.{ClientState, number_of}

numbers-more : (w : ClientState) (ns : List ℕ) (hs : List Address) (n : ℕ) (a : Address) → number_of w a ≡ Some n → AreNumbersOf w ns hs →
    AreNumbersOf w (ns ++ n ∷ []) (hs ++ a ∷ [])
numbers-more w [] [] n a e h = (e, tt)
numbers-more w [] (b ∷ bs) n a e h = absurd h
numbers-more w (m ∷ ms) [] n a e h = absurd h
numbers-more w (m ∷ ms) (b ∷ bs) n a e (f, h) = (f, numbers-more w ms bs n a e h)

-- the number of the next host, behind those of the first ones
pub numbers-next : (w : ClientState) (ns new : List ℕ) (hs : List Address) (i n : ℕ) (a : Address) → i < length hs → a ≡ get_or hs i a → new ≡ ns ++ n ∷ [] →
    number_of w a ≡ Some n → AreNumbersOf w ns (take i hs) → AreNumbersOf w new (take (i + 1) hs)
numbers-next w ns new hs i n a lt is made e h =
    let cut : take (i + 1) hs ≡ take i hs ++ a ∷ [] = take_more hs i a lt ∙ ap (λ z. take i hs ++ z ∷ []) (sym is) in
    subst (λ bs. AreNumbersOf w new bs) (sym cut) (subst (λ ks. AreNumbersOf w ks (take i hs ++ a ∷ [])) (sym made) (numbers-more w ns (take i hs) n a e h))

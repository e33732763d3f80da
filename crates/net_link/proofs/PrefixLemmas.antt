-- Lists that begin with another.
use Rattle.std.proofs.Common.{◌≡◌, List, [], ◌++◌, refl, ap, sym, ◌∙◌, append_assoc}
use Rattle.std.proofs.lemmas.List.{append-nil}
use Rattle.std.proofs.lemmas.List.Elements.{Contains-append_left}
use Rattle.std.specs.List.{Contains}
use Rattle.net_link.specs.Prefix.{IsPrefixOf}

pub IsPrefixOf-same : {A : Type 0} (xs : List A) → IsPrefixOf xs xs
IsPrefixOf-same xs = record { more = []; joined = append-nil xs }

pub IsPrefixOf-append : {A : Type 0} (xs ys : List A) → IsPrefixOf xs (xs ++ ys)
IsPrefixOf-append xs ys = record { more = ys; joined = refl }

pub IsPrefixOf-from_eq : {A : Type 0} (xs ys : List A) → xs ≡ ys → IsPrefixOf xs ys
IsPrefixOf-from_eq xs ys e = record { more = []; joined = append-nil xs ∙ e }

pub IsPrefixOf-trans : {A : Type 0} {xs ys zs : List A} → IsPrefixOf xs ys → IsPrefixOf ys zs → IsPrefixOf xs zs
IsPrefixOf-trans {xs = xs} p q = record {
  more = p.more ++ q.more;
  joined = sym (append_assoc xs p.more q.more) ∙ ap (λ l. l ++ q.more) p.joined ∙ q.joined;
}

pub Contains-prefix : {A : Type 0} {xs ys : List A} (x : A) → IsPrefixOf xs ys → Contains xs x → Contains ys x
Contains-prefix {xs = xs} x p h = rw (← p.joined) (Contains-append_left xs p.more x h)

-- What the entries of a trail tell of a part of it leads where the trail leads that part.
use Rattle.std.proofs.Common.{◌≡◌, List, [], ◌∷◌, ◌++◌, refl, sym, ap, ◌∙◌, subst}
use Rattle.entry_judge.specs.declared.timed.Timed.{Timed}
use Rattle.entry_judge.specs.Judge.{Legal, state_after}
use Rattle.entry_judge.specs.LegalLaws.{Legal-append, state_after-append}
use Rattle.desk_trail.specs.Clients.{Client}
use Rattle.desk_trail.specs.Facts.{Fact}
use Rattle.desk_trail.specs.Legal.{AreLegal, Point, StandsAt, beginning, point_after, point_behind}
use Rattle.desk_trail.specs.Parts.{told_from}

-- entries are legal from a state on, and lead to another
pub record Leads {S E : Type 0} (May : S → E → Type 0) (next : S → E → S) (s : S) (es : List E) (q : S) : Type 0 where
  pub legal : Legal May next s es
  pub to : q ≡ state_after next s es

pub told-leads : {S E : Type 0} (client : Client) (tells : Point → Timed Fact → List E) (May : S → E → Type 0) (next : S → E → S) (at : Point → S) →
    ((p : Point) (t : Timed Fact) → StandsAt client p t → Leads May next (at p) (tells p t) (at (point_after client p t))) →
    (p : Point) (ts : List (Timed Fact)) → Legal (StandsAt client) (point_after client) p ts →
    Leads May next (at p) (told_from client tells p ts) (at (state_after (point_after client) p ts))
told-leads client tells May next at each p [] l = record { legal = tt; to = refl }
told-leads client tells May next at each p (t ∷ ts) l =
    let q = point_after client p t in
    let here = each p t l.0 in
    let later = told-leads client tells May next at each q ts l.1 in
    record {
      legal = Legal-append May next (at p) (tells p t) (told_from client tells q ts) here.legal
          (subst (λ s. Legal May next s (told_from client tells q ts)) here.to later.legal);
      to = later.to ∙ ap (λ s. state_after next s (told_from client tells q ts)) here.to
          ∙ sym (state_after-append next (at p) (tells p t) (told_from client tells q ts));
    }

-- what an entry tells nothing of stays
pub stays-Leads : {S E : Type 0} (May : S → E → Type 0) (next : S → E → S) (s q : S) → q ≡ s → Leads May next s [] q
stays-Leads May next s q e = record { legal = tt; to = e }

-- ---- What each entry keeps

-- a front of a legal trail with the entry behind it
pub record Further (client : Client) (xs : List (Timed Fact)) (t : Timed Fact) : Type 0 where
  pub front : AreLegal client xs
  pub all : AreLegal client (xs ++ t ∷ [])
  pub stands : StandsAt client (point_behind client xs) t
  pub to : point_behind client (xs ++ t ∷ []) ≡ point_after client (point_behind client xs) t

pub further : (client : Client) (xs : List (Timed Fact)) (t : Timed Fact) → AreLegal client xs → StandsAt client (point_behind client xs) t → Further client xs t
further client xs t l s = record {
  front = l;
  all = Legal-append (StandsAt client) (point_after client) (beginning client) xs (t ∷ []) l (s, tt);
  stands = s;
  to = state_after-append (point_after client) (beginning client) xs (t ∷ []);
}

along-from : (client : Client) (P : Point → Type 0) →
    ((xs : List (Timed Fact)) (t : Timed Fact) → Further client xs t → P (point_behind client xs) → P (point_after client (point_behind client xs) t)) →
    (xs ys : List (Timed Fact)) → AreLegal client xs → Legal (StandsAt client) (point_after client) (point_behind client xs) ys → P (point_behind client xs) →
    P (state_after (point_after client) (point_behind client xs) ys)
along-from client P each xs [] l m h = h
along-from client P each xs (y ∷ ys) l m h =
    let f = further client xs y l m.0 in
    subst (λ q. P (state_after (point_after client) q ys)) f.to
    (along-from client P each (xs ++ y ∷ []) ys f.all
    (subst (λ q. Legal (StandsAt client) (point_after client) q ys) (sym f.to) m.1)
    (subst P (sym f.to) (each xs y f h)))

pub along : (client : Client) (P : Point → Type 0) →
    ((xs : List (Timed Fact)) (t : Timed Fact) → Further client xs t → P (point_behind client xs) → P (point_after client (point_behind client xs) t)) →
    P (beginning client) → (ts : List (Timed Fact)) → AreLegal client ts → P (point_behind client ts)
along client P each h ts l = along-from client P each [] ts tt l h

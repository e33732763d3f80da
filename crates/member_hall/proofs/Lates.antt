-- Late requests, and the streams that hold one.
use Rattle.std.proofs.Common.{◌≡◌, ◌<◌, ◌≤◌, ◌+◌, ◌-◌, ℕ, zero, suc, Bool, true, false, List, [], ◌∷◌, ◌++◌, Option, Some, None, cond, eqb, leb, length, set, refl, sym, ap, ◌∙◌, subst, arith}
use Rattle.std.specs.Prelude.{not}
use Rattle.std.specs.List.{Contains, filter}
use Rattle.std.specs.Option.{IsSome, is_some}
use Rattle.std.proofs.lemmas.Bool.{eqb-true, eqb-false}
use Rattle.std.proofs.lemmas.List.{get_or-set_same, get_or-set_other, length-set, get_or_append_left, get_or_past, get_or_push, length_push}
use Rattle.std.proofs.lemmas.List.Elements.{Contains-append_left, Contains-push}
use Rattle.member_hall.specs.Halls.{HallState, line_at, no_line}
use Rattle.member_hall.specs.Inside.{HaveLate, NoneLate, is_late}
use Rattle.member_hall.specs.Lines.{LineState}
use Rattle.member_hall.specs.Requests.{Scene, handled_late, late_scene}
use Rattle.member_hall.specs.Turns.{late_among, late_on, place_in, put_scene, scene_in}
use Rattle.member_hall.specs.declared.late.LateRequest.{LateRequest}
use Rattle.member_hall.specs.declared.place.Place.{Place}
use Rattle.member_hall.proofs.Scenes.{put_same}

-- ---- what comes late

-- A stream with no late request, or with one whose turn has not come, is left alone.
scene_same : (at : Place) (o : Option LateRequest) (s : Scene) → is_late at.turn o ≡ false → late_scene o at s ≡ s
scene_same at None s none = refl
scene_same at (Some late) s none = ap (λ (b : Bool). cond b (handled_late at late.message s) s) none

late_on-none : (h : HallState) (s : ℕ) → is_late h.turn (line_at h.lines s).late ≡ false → late_on s h ≡ h
unfolding late_on
late_on-none h s none = ap (λ (c : Scene). put_scene s c h) (scene_same (place_in h s) (line_at h.lines s).late (scene_in h s) none) ∙ put_same h s

among-more : (h : HallState) (n : ℕ) → late_among (n + 1) h ≡ late_on n (late_among n h)
unfolding late_among
among-more h n = ap (λ (k : ℕ). late_among k h) (let next : n + 1 ≡ suc n = omega arith in next)

pub among-none : (h : HallState) → h ≡ late_among 0 h
unfolding late_among
among-none h = refl

among-count : (h : HallState) (from count : ℕ) → NoneLate (late_among from h) from (from + count) → late_among (from + count) h ≡ late_among from h
among-count h from zero none = ap (λ (k : ℕ). late_among k h) (omega arith)
among-count h from (suc count) none =
    let before : late_among (from + count) h ≡ late_among from h = among-count h from count (λ s low high. none s low (omega (arith, high))) in
    ap (λ (k : ℕ). late_among k h) (let next : from + suc count ≡ (from + count) + 1 = omega arith in next)
    ∙ among-more h (from + count) ∙ ap (late_on (from + count)) before ∙ late_on-none (late_among from h) (from + count) (none (from + count) (omega arith) (omega arith))

-- From one stream up to another no request is late.
pub among-skip : (h now : HallState) (from to : ℕ) → now ≡ late_among from h → from ≤ to → NoneLate now from to → now ≡ late_among to h
among-skip h now from to is within none =
    let size : from + (to - from) ≡ to = omega arith in
    is
    ∙ sym (among-count h from (to - from) (subst (λ (k : ℕ). NoneLate (late_among from h) from k) (sym size) (subst (λ (g : HallState). NoneLate g from to) is none)))
    ∙ ap (λ (k : ℕ). late_among k h) size

-- One more stream was looked at.
pub among-next : (h now new : HallState) (s : ℕ) → now ≡ late_among s h → new ≡ late_on s now → new ≡ late_among (s + 1) h
among-next h now new s so_far is = is ∙ ap (late_on s) so_far ∙ sym (among-more h s)

-- A late request that was handled is gone.
scene_done : (at : Place) (o : Option LateRequest) (s : Scene) → is_late at.turn o ≡ true → (late_scene o at s).line.late ≡ None
scene_done at None s late = absurd (let clash : false ≡ true = late in let never : ⊥ = cc in never)
scene_done at (Some request) s late = ap (λ (b : Bool). (cond b (handled_late at request.message s) s).line.late) late

pub late_on-done : (h : HallState) (s : ℕ) → s < length h.lines → is_late h.turn (line_at h.lines s).late ≡ true → (line_at (late_on s h).lines s).late ≡ None
unfolding late_on
late_on-done h s there late =
    ap (λ (l : LineState). l.late) (get_or-set_same h.lines s (late_scene (line_at h.lines s).late (place_in h s) (scene_in h s)).line no_line there)
    ∙ scene_done (place_in h s) (line_at h.lines s).late (scene_in h s) late

pub late_on-lines : (h : HallState) (s : ℕ) → length (late_on s h).lines ≡ length h.lines
unfolding late_on
late_on-lines h s = length-set h.lines s (late_scene (line_at h.lines s).late (place_in h s) (scene_in h s)).line

-- ---- the streams that hold one

pub late_none : (streams : List ℕ) (lines : List LineState) → lines ≡ [] → HaveLate streams lines
late_none streams lines none s some =
    absurd (let clash : false ≡ true = subst (λ (l : List LineState). is_some (line_at l s).late ≡ true) none some in let never : ⊥ = cc in never)

-- A stream that holds none in place of one.
pub late_set : (streams : List ℕ) (lines : List LineState) (s : ℕ) (line : LineState) → HaveLate streams lines → s < length lines → (IsSome line.late → Contains streams s) → HaveLate streams (set lines s line)
late_set streams lines s line have there holds t = at (eqb t s) refl
  where
    at : (b : Bool) → eqb t s ≡ b → IsSome (line_at (set lines s line) t).late → Contains streams t
    at true e some =
        let same : t ≡ s = eqb-true t s e in
        let is : line_at (set lines s line) t ≡ line = ap (line_at (set lines s line)) same ∙ get_or-set_same lines s line no_line there in
        subst (Contains streams) (sym same) (holds (subst (λ (l : LineState). IsSome l.late) is some))
    at false e some = have t (subst (λ (l : LineState). IsSome l.late) (get_or-set_other lines s t line no_line (eqb-false t s e)) some)

-- Its late request is what it was.
pub late_same : (streams : List ℕ) (lines : List LineState) (s : ℕ) (line : LineState) → HaveLate streams lines → s < length lines → line.late ≡ (line_at lines s).late → HaveLate streams (set lines s line)
late_same streams lines s line have there same = late_set streams lines s line have there (λ some. have s (subst (λ (o : Option LateRequest). IsSome o) same some))

pub late_more : (streams : List ℕ) (lines : List LineState) (s : ℕ) → HaveLate streams lines → HaveLate (streams ++ s ∷ []) lines
late_more streams lines s have t some = Contains-append_left streams (s ∷ []) t (have t some)

pub late_open : (streams : List ℕ) (lines : List LineState) (line : LineState) → HaveLate streams lines → line.late ≡ None → HaveLate streams (lines ++ line ∷ [])
late_open streams lines line have none t = at (leb (length lines) t) refl (eqb t (length lines)) refl
  where
    never_some : (o : Option LateRequest) → o ≡ None → IsSome o → Contains streams t
    never_some o is some = absurd (let clash : false ≡ true = subst (λ (p : Option LateRequest). is_some p ≡ true) is some in let never : ⊥ = cc in never)

    at : (b : Bool) → leb (length lines) t ≡ b → (d : Bool) → eqb t (length lines) ≡ d → IsSome (line_at (lines ++ line ∷ []) t).late → Contains streams t
    at b e true f some =
        let is : line_at (lines ++ line ∷ []) t ≡ line = get_or_push lines line no_line t (sym (eqb-true t (length lines) f)) in
        never_some (line_at (lines ++ line ∷ []) t).late (ap (λ (l : LineState). l.late) is ∙ none) some
    at true e false f some =
        let is : line_at (lines ++ line ∷ []) t ≡ no_line = get_or_past (lines ++ line ∷ []) t no_line (grind (arith, e, eqb-false t (length lines) f, length_push lines line)) in
        never_some (line_at (lines ++ line ∷ []) t).late (ap (λ (l : LineState). l.late) is) some
    at false e false f some = have t (subst (λ (l : LineState). IsSome l.late) (get_or_append_left lines (line ∷ []) no_line t (grind (arith, e))) some)

contains_kept : (p : ℕ → Bool) (xs : List ℕ) (x : ℕ) → Contains xs x → p x ≡ true → Contains (filter p xs) x
contains_kept p [] x (k, below, is) good = absurd (omega (arith, below))
contains_kept p (y ∷ ys) x (zero, below, is) good =
    let own : p y ≡ true = ap p is ∙ good in
    subst (λ (l : List ℕ). Contains l x) (sym (ap (λ (b : Bool). cond b (y ∷ filter p ys) (filter p ys)) own)) (0, omega arith, is)
contains_kept p (y ∷ ys) x (suc k, below, is) good = by (p y) (contains_kept p ys x (k, omega (arith, below), is) good)
  where
    by : (b : Bool) → Contains (filter p ys) x → Contains (cond b (y ∷ filter p ys) (filter p ys)) x
    by true (n, within, at) = (suc n, omega (arith, within), at)
    by false held = held

-- A stream that holds none leaves the list.
pub late_forgotten : (streams kept : List ℕ) (lines : List LineState) (s : ℕ) → HaveLate streams lines → (line_at lines s).late ≡ None → kept ≡ filter (λ (t : ℕ). not (eqb t s)) streams → HaveLate kept lines
late_forgotten streams kept lines s have none is t some = subst (λ (l : List ℕ). Contains l t) (sym is) (at (eqb t s) refl)
  where
    at : (b : Bool) → eqb t s ≡ b → Contains (filter (λ (t : ℕ). not (eqb t s)) streams) t
    at true e =
        let gone : (line_at lines t).late ≡ None = ap (λ (k : ℕ). (line_at lines k).late) (eqb-true t s e) ∙ none in
        absurd (let clash : false ≡ true = subst (λ (o : Option LateRequest). is_some o ≡ true) gone some in let never : ⊥ = cc in never)
    at false e = contains_kept (λ (t : ℕ). not (eqb t s)) streams t (have t some) (ap not e)

-- A request that comes late leaves its stream's late request, or takes it.
late_left : (at : Place) (o : Option LateRequest) (s : Scene) → s.line.late ≡ o → IsSome (late_scene o at s).line.late → IsSome o
late_left at None s is some = subst (λ (p : Option LateRequest). IsSome p) is some
late_left at (Some late) s is some = refl

pub late_handled : (streams : List ℕ) (lines : List LineState) (s : ℕ) (at : Place) (scene : Scene) (was line : LineState) → HaveLate streams lines → s < length lines → was ≡ line_at lines s
    → scene.line ≡ was → line ≡ (late_scene was.late at scene).line → HaveLate streams (set lines s line)
late_handled streams lines s at scene was line have there read own is =
    late_set streams lines s line have there
    (λ some. have s (subst (λ (l : LineState). IsSome l.late) read
    (late_left at was.late scene (ap (λ (l : LineState). l.late) own) (subst (λ (l : LineState). IsSome l.late) is some))))

-- A stream joins the list where it holds one.
pub late_noted : (streams noted : List ℕ) (lines : List LineState) (s : ℕ) (line : LineState) → HaveLate streams lines → s < length lines → noted ≡ cond (is_some line.late) (streams ++ s ∷ []) streams → HaveLate noted (set lines s line)
late_noted streams noted lines s line have there is = subst (λ (l : List ℕ). HaveLate l (set lines s line)) (sym is) (by (is_some line.late) refl)
  where
    by : (b : Bool) → is_some line.late ≡ b → HaveLate (cond b (streams ++ s ∷ []) streams) (set lines s line)
    by true e = late_set (streams ++ s ∷ []) lines s line (late_more streams lines s have) there (λ some. Contains-push streams s)
    by false e = late_set streams lines s line have there (λ some. absurd (let clash : false ≡ true = sym e ∙ some in let never : ⊥ = cc in never))

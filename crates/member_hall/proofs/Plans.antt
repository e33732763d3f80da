-- Acts that happen in the order of a plan.
use Rattle.std.proofs.Common.{◌≡◌, ◌<◌, ◌+◌, ◌-◌, ℕ, suc, Bool, List, [], ◌∷◌, ◌++◌, true, false, cond, eqb, ltb, length, take, drop, refl, sym, ap, ◌∙◌, arith, subst, append-nil, append_assoc}
use Rattle.std.specs.Prelude.{not, fold}
use Rattle.std.specs.List.{filter, remove}
use Rattle.std.proofs.Math.Seq.{drop-append_seam, take-append_seam}
use Rattle.std.proofs.lemmas.List.{drop_more, length-take-le, take-append-drop, take_more}
use Rattle.std.proofs.lemmas.List.Edits.{length-remove}
use Rattle.std.proofs.lemmas.Bool.{lt-leb}
use Rattle.net_link.specs.declared.event.NetEvent.TheVariants as event
use Rattle.member_hall.specs.Acts.{elected, following, following_peer, happened, happened_there, host_of}
use Rattle.member_hall.specs.Halls.{HallState, no_act, plan_at, with_peer}
use Rattle.member_hall.specs.Orders.{ActsFrom}
use Rattle.member_hall.specs.Playing.{Plays}
use Rattle.member_hall.specs.Turns.{acted, is_due}
use Rattle.member_hall.specs.declared.act.Act.{Act}
use Rattle.member_hall.specs.declared.act.Act.TheVariants as act
use Rattle.member_hall.specs.declared.act.Planned.{Planned}
use Rattle.member_hall.proofs.Moves.{happened_is}
use Rattle.member_hall.proofs.Playing.{plays-trans, plays_elected, plays_following, plays_met, plays_same}

-- ---- an act knows nothing of the plan and of the turn

planned : List Planned → HallState → HallState
planned plan h = record h { plan = plan }

cond_planned : (plan : List Planned) (b : Bool) (x y : HallState) → cond b (planned plan x) (planned plan y) ≡ planned plan (cond b x y)
unfolding planned
cond_planned plan true x y = refl
cond_planned plan false x y = refl

there_planned : (a : Act) (h : HallState) (plan : List Planned) → happened_there a (planned plan h) ≡ planned plan (happened_there a h)
unfolding elected following planned
there_planned (act.Drop m) h plan = refl
there_planned (act.Mute m) h plan = refl
there_planned (act.Late m turns) h plan = refl
there_planned (act.Hold m turns) h plan = refl
there_planned (act.Refuse m code retryable no_writes) h plan = refl
there_planned (act.Dead m) h plan = refl
there_planned (act.Alive m) h plan = refl
there_planned (act.Split m bytes) h plan = refl
there_planned (act.Elect m) h plan = refl
there_planned (act.Follow m) h plan = cond_planned plan (eqb h.last m) h (record (with_peer m (following_peer h m) h) { events = h.events ++ event.Followed m ∷ [] })

pub happened_planned : (a : Act) (h : HallState) (plan : List Planned) → happened a (record h { plan = plan }) ≡ record (happened a h) { plan = plan }
unfolding happened planned
happened_planned a h plan =
    ap (λ (g : HallState). cond (ltb (host_of a) (length h.peers)) g (planned plan h)) (there_planned a h plan) ∙ cond_planned plan (ltb (host_of a) (length h.peers)) (happened_there a h) h

pub happened-plan : (a : Act) (h : HallState) → (happened a h).plan ≡ h.plan
happened-plan a h = ap (λ (g : HallState). g.plan) (happened_planned a h h.plan)

cond_turn : (n : ℕ) (b : Bool) (x y : HallState) → x.turn ≡ n → y.turn ≡ n → (cond b x y).turn ≡ n
cond_turn n true x y p q = p
cond_turn n false x y p q = q

there_turn : (a : Act) (h : HallState) → (happened_there a h).turn ≡ h.turn
unfolding elected following
there_turn (act.Drop m) h = refl
there_turn (act.Mute m) h = refl
there_turn (act.Late m turns) h = refl
there_turn (act.Hold m turns) h = refl
there_turn (act.Refuse m code retryable no_writes) h = refl
there_turn (act.Dead m) h = refl
there_turn (act.Alive m) h = refl
there_turn (act.Split m bytes) h = refl
there_turn (act.Elect m) h = refl
there_turn (act.Follow m) h = cond_turn h.turn (eqb h.last m) h (record (with_peer m (following_peer h m) h) { events = h.events ++ event.Followed m ∷ [] }) refl refl

pub happened-turn : (a : Act) (h : HallState) → (happened a h).turn ≡ h.turn
unfolding happened
happened-turn a h = cond_turn h.turn (ltb (host_of a) (length h.peers)) (happened_there a h) h (there_turn a h) refl

-- ---- it only plays

there_plays : (a : Act) (h : HallState) → host_of a < length h.peers → Plays h (happened_there a h)
there_plays (act.Drop m) h there = plays_met h (act.Drop m) there
there_plays (act.Mute m) h there = plays_met h (act.Mute m) there
there_plays (act.Late m turns) h there = plays_met h (act.Late m turns) there
there_plays (act.Hold m turns) h there = plays_met h (act.Hold m turns) there
there_plays (act.Refuse m code retryable no_writes) h there = plays_met h (act.Refuse m code retryable no_writes) there
there_plays (act.Dead m) h there = plays_met h (act.Dead m) there
there_plays (act.Alive m) h there = plays_met h (act.Alive m) there
there_plays (act.Split m bytes) h there = plays_met h (act.Split m bytes) there
there_plays (act.Elect m) h there = plays_elected h m there
there_plays (act.Follow m) h there = plays_following h m there

pub plays_happened : (a : Act) (h : HallState) (plan : List Planned) → host_of a < length h.peers → Plays h (record (happened a h) { plan = plan })
plays_happened a h plan there =
    plays-trans (subst (λ (g : HallState). Plays h g) (happened_is a h there) (there_plays a h there)) (plays_same (happened a h) plan (happened a h).unserved)

-- ---- one after another

-- The acts in front stay in the plan, and those behind are still to be looked at.
pub acts_from : List Planned → List Planned → HallState → HallState
acts_from front [] h = record h { plan = front }
acts_from front (p ∷ rest) h = cond (is_due h.turn p) (acts_from front rest (happened p.act h)) (acts_from (front ++ p ∷ []) rest h)

acts_planned : (front rest : List Planned) (h : HallState) (plan : List Planned) → acts_from front rest (record h { plan = plan }) ≡ acts_from front rest h
unfolding acts_from
acts_planned front [] h plan = refl
acts_planned front (p ∷ rest) h plan =
    λ i. cond (is_due h.turn p) ((ap (acts_from front rest) (happened_planned p.act h plan) ∙ acts_planned front rest (happened p.act h) plan) i) (acts_planned (front ++ p ∷ []) rest h plan i)

rest_of : (front rest : List Planned) (h : HallState) → HallState
rest_of front rest h = fold (λ g p. happened p.act g) (record h { plan = front ++ filter (λ p. not (is_due h.turn p)) rest }) (filter (is_due h.turn) rest)

rest_by : (front rest : List Planned) (h : HallState) (p : Planned) → Bool → HallState
rest_by front rest h p b =
    fold (λ g q. happened q.act g) (record h { plan = front ++ cond (not b) (p ∷ filter (λ q. not (is_due h.turn q)) rest) (filter (λ q. not (is_due h.turn q)) rest) }) (cond b (p ∷ filter (is_due h.turn) rest) (filter (is_due h.turn) rest))

-- The next act happens or stays.
rest_step : (front rest : List Planned) (h : HallState) (p : Planned) (b : Bool) → acts_from front rest (happened p.act h) ≡ rest_of front rest (happened p.act h) → acts_from (front ++ p ∷ []) rest h ≡ rest_of (front ++ p ∷ []) rest h
    → cond b (acts_from front rest (happened p.act h)) (acts_from (front ++ p ∷ []) rest h) ≡ rest_by front rest h p b
unfolding rest_of rest_by
rest_step front rest h p true here behind =
    let later : (happened p.act h).turn ≡ h.turn = happened-turn p.act h in
    here
    ∙ (λ i. fold (λ g q. happened q.act g) (record (happened p.act h) { plan = front ++ filter (λ q. not (is_due (later i) q)) rest }) (filter (is_due (later i)) rest))
    ∙ ap (λ (g : HallState). fold (λ g q. happened q.act g) g (filter (is_due h.turn) rest)) (sym (happened_planned p.act h (front ++ filter (λ q. not (is_due h.turn q)) rest)))
rest_step front rest h p false here behind =
    behind ∙ ap (λ (l : List Planned). fold (λ g q. happened q.act g) (record h { plan = l }) (filter (is_due h.turn) rest)) (append_assoc front (p ∷ []) (filter (λ q. not (is_due h.turn q)) rest))

acts-rest : (front rest : List Planned) (h : HallState) → acts_from front rest h ≡ rest_of front rest h
unfolding acts_from rest_of rest_by
acts-rest front [] h = ap (λ (l : List Planned). record h { plan = l }) (sym (append-nil front))
acts-rest front (p ∷ rest) h = rest_step front rest h p (is_due h.turn p) (acts-rest front rest (happened p.act h)) (acts-rest (front ++ p ∷ []) rest h)

pub acts-all : (h : HallState) → acts_from [] h.plan h ≡ acted h
unfolding acted rest_of
acts-all h = acts-rest [] h.plan h

-- ---- an act at a place

-- It is not at its turn and stays, or it happens and leaves.
pub acts-stay : (h : HallState) (place : ℕ) → place < length h.plan → is_due h.turn (plan_at h.plan place) ≡ false → acts_from (take (place + 1) h.plan) (drop (place + 1) h.plan) h ≡ acts_from (take place h.plan) (drop place h.plan) h
unfolding acts_from
acts-stay h place there due =
    ap (λ (l : List Planned). acts_from l (drop (place + 1) h.plan) h) (take_more h.plan place no_act there)
    ∙ sym (ap (λ (l : List Planned). acts_from (take place h.plan) l h) (drop_more h.plan place no_act there)
    ∙ ap (λ (b : Bool). cond b (acts_from (take place h.plan) (drop (place + 1) h.plan) (happened (plan_at h.plan place).act h)) (acts_from (take place h.plan ++ plan_at h.plan place ∷ []) (drop (place + 1) h.plan) h)) due)

seam_take : (front back : List Planned) (n : ℕ) → length front ≡ n → take n (front ++ back) ≡ front
seam_take front back n size = subst (λ (k : ℕ). take k (front ++ back) ≡ front) size (take-append_seam front back)

seam_drop : (front back : List Planned) (n : ℕ) → length front ≡ n → drop n (front ++ back) ≡ back
seam_drop front back n size = subst (λ (k : ℕ). drop k (front ++ back) ≡ back) size (drop-append_seam front back)

pub acts-gone : (h new : HallState) (place : ℕ) → place < length h.plan → is_due h.turn (plan_at h.plan place) ≡ true → new ≡ record (happened (plan_at h.plan place).act h) { plan = remove h.plan place }
    → acts_from (take place new.plan) (drop place new.plan) new ≡ acts_from (take place h.plan) (drop place h.plan) h
unfolding acts_from
acts-gone h new place there due is =
    let front : List Planned = take place h.plan in
    let back : List Planned = drop (place + 1) h.plan in
    let size : length front ≡ place = length-take-le place h.plan (omega arith) in
    let after : suc place ≡ place + 1 = omega arith in
    let plan : new.plan ≡ front ++ back = ap (λ (g : HallState). g.plan) is ∙ ap (λ (k : ℕ). front ++ drop k h.plan) after in
    (λ i. acts_from ((ap (take place) plan ∙ seam_take front back place size) i) ((ap (drop place) plan ∙ seam_drop front back place size) i) (is i))
    ∙ acts_planned front back (happened (plan_at h.plan place).act h) (remove h.plan place)
    ∙ sym (ap (λ (l : List Planned). acts_from front l h) (drop_more h.plan place no_act there)
    ∙ ap (λ (b : Bool). cond b (acts_from front back (happened (plan_at h.plan place).act h)) (acts_from (front ++ plan_at h.plan place ∷ []) back h)) due)

-- One act less is behind the place.
pub gone-less : (h new : HallState) (place : ℕ) → place < length h.plan → new ≡ record (happened (plan_at h.plan place).act h) { plan = remove h.plan place } → length new.plan - place < length h.plan - place
gone-less h new place there is = omega (arith, there, ap (λ (g : HallState). length g.plan + 1) is, length-remove h.plan place there)

-- None from a place on is due.
later-rest : (front rest : List Planned) (h : HallState) → ActsFrom (h.turn + 1) rest → acts_from front rest h ≡ record h { plan = front ++ rest }
unfolding acts_from
later-rest front [] h later = ap (λ (l : List Planned). record h { plan = l }) (sym (append-nil front))
later-rest front (p ∷ rest) h later =
    let early : is_due h.turn p ≡ false = lt-leb p.turn h.turn (omega (arith, later.0)) in
    ap (λ (b : Bool). cond b (acts_from front rest (happened p.act h)) (acts_from (front ++ p ∷ []) rest h)) early
    ∙ later-rest (front ++ p ∷ []) rest h later.1 ∙ ap (λ (l : List Planned). record h { plan = l }) (append_assoc front (p ∷ []) rest)

pub acts-later : (h : HallState) (place : ℕ) → ActsFrom (h.turn + 1) (drop place h.plan) → acts_from (take place h.plan) (drop place h.plan) h ≡ h
acts-later h place later = later-rest (take place h.plan) (drop place h.plan) h later ∙ ap (λ (l : List Planned). record h { plan = l }) (take-append-drop place h.plan)

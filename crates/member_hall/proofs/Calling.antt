-- What the trait of nets asks of each call of a hall.
use Rattle.std.proofs.Common.{◌≡◌, ◌≢◌, ◌<◌, ◌≤◌, ℕ, zero, suc, Bool, List, [], ◌∷◌, ◌++◌, true, false, Some, None, Option, Result, Ok, Err, ◌⊎◌, cond, eqb, ltb, length, set, take, refl, sym, ap, ◌∙◌, arith, subst, length-append}
use Rattle.std.specs.Option.{option_map, option_map_or}
use Rattle.std.specs.Prelude.{not, ◌||◌}
use Rattle.std.specs.Result.{IfOk, OnOk, OnErr}
use Rattle.std.proofs.lemmas.Bool.{eqb-true, eqb-false}
use Rattle.std.proofs.lemmas.List.{get_or-set_same, get_or-set_other, get_or_append_left, get_or_push, length-set, length_push, nil_from_length, take_all}
use Rattle.net_link.specs.Calls.{IfStream, IsNewStream, close_events, dial_events, read_events, write_events}
use Rattle.net_link.specs.Causes.{HasCause, count_of, next_count}
use Rattle.net_link.specs.Events.{Adds, IsFresh}
use Rattle.net_link.specs.Inbox.{ReadsInbox}
use Rattle.net_link.specs.Keeps.{all, all_but, all_but_inbox_of}
use Rattle.net_link.specs.Prefix.{IsPrefixOf}
use Rattle.net_link.specs.declared.event.NetEvent.{NetEvent}
use Rattle.net_link.specs.declared.event.NetEvent.TheVariants as event
use Rattle.net_link.specs.declared.net.Dialed.{Dialed}
use Rattle.net_link.specs.declared.net.Dialed.TheVariants as dialed
use Rattle.net_link.specs.declared.net.Wrote.{Wrote}
use Rattle.net_link.specs.declared.net.Wrote.TheVariants as wrote
use Rattle.net_link.specs.declared.net.Came.{Came}
use Rattle.net_link.specs.declared.net.Came.TheVariants as came
use Rattle.net_link.proofs.EventLemmas.{Adds-one, Adds-trans}
use Rattle.net_link.proofs.KeepsLemmas.{KeepsBut-trans, Keeps-less, Keeps-trans}
use Rattle.net_link.proofs.PrefixLemmas.{IsPrefixOf-from_eq, IsPrefixOf-same}
use Rattle.member_hall.specs.Calls.{IsGiven, came_of, close_state, dial_answer, dial_by, dial_state, dial_stream, dialed_of, faulted, is_dead, opened, reached, read_answer, read_size, read_state, taken, write_answer, write_fails, write_state, wrote_of}
use Rattle.member_hall.specs.Halls.{HallState, HasEnded, IsLive, inbox_of, line_at, no_line}
use Rattle.member_hall.specs.Honest.{IsSound, IsSoundLine}
use Rattle.member_hall.specs.Lines.{LineState, bytes_of, front_at, give_line, inbox_at, new_line, shut_line}
use Rattle.member_hall.specs.Playing.{HallKeeps, Plays}
use Rattle.member_hall.specs.Streams.{IsLive-below}
use Rattle.member_hall.specs.Turns.{begun, served}
use Rattle.member_hall.proofs.Answering.{all-given, ready-given, ready-none}
use Rattle.member_hall.proofs.Honesty.{line_ended, sound_came, sound_dialled, sound_line, sound_out, sound_still}
use Rattle.member_hall.proofs.Playing.{Goes, keeps_line, keeps_lines}

-- ---- one more stream

read_push : (lines : List LineState) (line : LineState) (t : ℕ) → t < length lines → line_at (lines ++ line ∷ []) t ≡ line_at lines t
read_push lines line t there = get_or_append_left lines (line ∷ []) no_line t there

ended_below : (lines : List LineState) (s : ℕ) → HasEnded lines s → s < length lines
unfolding HasEnded
ended_below [] s over = absurd (let e : false ≡ true = over in let never : ⊥ = cc in never)
ended_below (line ∷ lines) zero over = omega arith
ended_below (line ∷ lines) (suc s) over = omega (arith, ended_below lines s over)

keeps_open : (h : HallState) (m : ℕ) (address : List ℕ) → HallKeeps all h (opened m address h)
unfolding IsLive HasEnded inbox_of
keeps_open h m address = record {
  opens = λ t live. ap (λ (l : LineState). l.live) (read_push h.lines (new_line m) t (IsLive-below h.lines t live)) ∙ live;
  numbers = omega (arith, length_push h.lines (new_line m));
  arrives = λ _ t live.
      IsPrefixOf-from_eq (inbox_at h.turn (line_at h.lines t)) (inbox_at h.turn (line_at (h.lines ++ new_line m ∷ []) t))
      (ap (inbox_at h.turn) (sym (read_push h.lines (new_line m) t (IsLive-below h.lines t live))));
  stays_ended = λ _ t over. ap (λ (l : LineState). l.ended) (read_push h.lines (new_line m) t (ended_below h.lines t over)) ∙ over;
}

live_push : (lines : List LineState) (m : ℕ) → IsLive (lines ++ new_line m ∷ []) (length lines)
unfolding IsLive
live_push lines m = ap (λ (l : LineState). l.live) (get_or_push lines (new_line m) no_line (length lines) refl)

-- ---- a count of faults

cause_none : {failed : Type 0} (old new : ℕ) → new ≡ old → (failed → ⊥) → HasCause (count_of old) (count_of new) failed
cause_none old new same none = record { later = omega arith; rose = λ yes. absurd (none yes) }

cause_one : {failed : Type 0} (old mid : ℕ) → mid ≡ old → HasCause (count_of old) (count_of (next_count mid)) failed
cause_one old mid same = record { later = omega arith; rose = λ _. omega arith }

-- ---- a dial

pub record DialFacts (address : List ℕ) (answer : Dialed) (old new : HallState) : Type 0 where
  pub sound : IsSound new
  pub cause : HasCause (count_of old.faults) (count_of new.faults) (answer ≡ dialed.Failed)
  pub keeps : HallKeeps all old new
  pub stream : IfStream answer (IsNewStream (length old.lines) (length new.lines) (IsLive new.lines))
  pub told : Adds (dial_events address answer) old.events new.events
  pub fresh : IfStream answer (λ s. IsFresh s old.events)

abbrev pub answer_of : Option ℕ → Dialed
answer_of (Some s) = dialed.Stream s
answer_of None = dialed.Failed

pub dial_memory : (address : List ℕ) (old new : HallState) → IsSound old → Plays old new → DialFacts address dialed.Memory old new
dial_memory address old new sound plays = record {
  sound = plays.sound sound;
  cause = cause_none old.faults new.faults plays.faults (λ is. let never : ⊥ = cc in never);
  keeps = plays.keeps;
  stream = tt;
  told = plays.adds;
  fresh = tt;
}

still_noted : (h : HallState) (e : NetEvent) (faults : ℕ) → HallKeeps all h (record h { events = h.events ++ e ∷ []; faults = faults })
still_noted h e faults = keeps_lines h (record h { events = h.events ++ e ∷ []; faults = faults }) refl refl

pub dial_facts : (address : List ℕ) (old mid : HallState) (o : Option ℕ) → IsSound old → Plays old mid → DialFacts address (answer_of (option_map (λ m. length mid.lines) o)) old (dial_by o address mid)
dial_facts address old mid (Some m) sound plays =
    let more = plays.keeps.numbers in record {
      sound = sound_dialled mid m address (plays.sound sound);
      cause = cause_none old.faults mid.faults plays.faults (λ is. let never : ⊥ = cc in never);
      keeps = Keeps-trans plays.keeps (keeps_open mid m address);
      stream = (more, omega (arith, length_push mid.lines (new_line m)), live_push mid.lines m);
      told = Adds-trans plays.adds (Adds-one mid.events (event.Dialled (length mid.lines) address) refl);
      fresh = sound.fresh (length mid.lines) more;
    }
dial_facts address old mid None sound plays = record {
  sound = sound_still mid (event.NoDial address) (next_count mid.faults) (plays.sound sound) refl (λ s at. absurd (let clash : false ≡ true = at in let never : ⊥ = cc in never));
  cause = cause_one old.faults mid.faults plays.faults;
  keeps = Keeps-trans plays.keeps (still_noted mid (event.NoDial address) (next_count mid.faults));
  stream = tt;
  told = Adds-trans plays.adds (Adds-one mid.events (event.NoDial address) refl);
  fresh = tt;
}

-- ---- a write

pub record WriteFacts (stream : ℕ) (bytes : List ℕ) (answer : Wrote) (old new : HallState) : Type 0 where
  pub sound : IsSound new
  pub cause : HasCause (count_of old.faults) (count_of new.faults) (answer ≡ wrote.Failed)
  pub keeps : HallKeeps all old new
  pub told : Adds (write_events stream bytes answer) old.events new.events

pub write_memory : (stream : ℕ) (bytes : List ℕ) (old new : HallState) → IsSound old → Plays old new → WriteFacts stream bytes wrote.Memory old new
write_memory stream bytes old new sound plays = record {
  sound = plays.sound sound;
  cause = cause_none old.faults new.faults plays.faults (λ is. let never : ⊥ = cc in never);
  keeps = plays.keeps;
  told = plays.adds;
}

at_stream : (s n t : ℕ) → s < n → eqb s t ≡ true → t < n
at_stream s n t there at = subst (λ (k : ℕ). k < n) (eqb-true s t at) there

pub write_failed : (stream : ℕ) (bytes : List ℕ) (old mid : HallState) → IsSound old → Plays old mid → stream < length old.lines → WriteFacts stream bytes wrote.Failed old (faulted (event.Fault stream) mid)
write_failed stream bytes old mid sound plays there =
    let more = plays.keeps.numbers in record {
      sound = sound_still mid (event.Fault stream) (next_count mid.faults) (plays.sound sound) refl (λ t at. at_stream stream (length mid.lines) t (omega arith) at);
      cause = cause_one old.faults mid.faults plays.faults;
      keeps = Keeps-trans plays.keeps (still_noted mid (event.Fault stream) (next_count mid.faults));
      told = Adds-trans plays.adds (Adds-one mid.events (event.Fault stream) refl);
    }

keeps_taken : (h : HallState) (s : ℕ) (bytes : List ℕ) → s < length h.lines → HallKeeps all h (taken s bytes h)
keeps_taken h s bytes there =
    let line : LineState = record (line_at h.lines s) { rest = (line_at h.lines s).rest ++ bytes } in
    let goes : Goes h.turn h.turn (line_at h.lines s) line = record { live = refl; over = λ e. e; inbox = IsPrefixOf-same (inbox_at h.turn (line_at h.lines s)) } in
    keeps_line h (taken s bytes h) s line there refl refl goes

pub write_took : (stream : ℕ) (bytes : List ℕ) (old mid new : HallState) → IsSound old → Plays old mid → stream < length old.lines → (line_at mid.lines stream).ended ≡ false → Plays (taken stream bytes mid) new
    → WriteFacts stream bytes (wrote.Took (length bytes)) old new
write_took stream bytes old mid new sound plays there goes_on behind =
    let more = plays.keeps.numbers in
    let still : stream < length mid.lines = omega arith in
    let whole : bytes ≡ take (length bytes) bytes = sym (take_all (length bytes) bytes (omega arith)) in record {
      sound = behind.sound (sound_out mid stream bytes (plays.sound sound) still goes_on);
      cause = cause_none old.faults new.faults (behind.faults ∙ plays.faults) (λ is. let never : ⊥ = cc in never);
      keeps = Keeps-trans plays.keeps (Keeps-trans (keeps_taken mid stream bytes still) behind.keeps);
      told = subst (λ (b : List ℕ). Adds (event.Out stream b ∷ []) old.events new.events) whole
          (Adds-trans (Adds-trans plays.adds (Adds-one mid.events (event.Out stream bytes) refl)) behind.adds);
    }

-- ---- a read

pub record ReadFacts (stream : ℕ) (into : List ℕ) (answer : Came) (old new : HallState) : Type 0 where
  pub sound : IsSound new
  pub cause : HasCause (count_of old.faults) (count_of new.faults) (answer ≡ came.Failed)
  pub keeps : HallKeeps (all_but_inbox_of stream) old new
  pub told : Adds (read_events stream into answer) old.events new.events
  pub inbox : ReadsInbox (inbox_of old stream) (inbox_of new stream) (HasEnded new.lines stream) into answer

pub read_memory : (stream : ℕ) (into : List ℕ) (old new : HallState) → IsSound old → Plays old new → IsLive old.lines stream → ReadFacts stream into came.Memory old new
read_memory stream into old new sound plays live = record {
  sound = plays.sound sound;
  cause = cause_none old.faults new.faults plays.faults (λ is. let never : ⊥ = cc in never);
  keeps = Keeps-less stream plays.keeps;
  told = plays.adds;
  inbox = plays.keeps.arrives tt stream live;
}

none_before : (old now : List ℕ) → IsPrefixOf old now → now ≡ [] → old ≡ []
none_before old now p none =
    let size : length (old ++ p.more) ≡ length now = ap length p.joined in
    let zero : length now ≡ 0 = ap length none in
    nil_from_length old (omega (arith, length-append old p.more))

keeps_given : (h : HallState) (s : ℕ) (line : LineState) (events : List NetEvent) → line.live ≡ (line_at h.lines s).live → line.ended ≡ (line_at h.lines s).ended → s < length h.lines
    → HallKeeps (all_but_inbox_of s) h (record h { lines = set h.lines s line; events = events })
unfolding IsLive HasEnded inbox_of
keeps_given h s line events live ended there = record {
  opens = λ t opened. live_at t (eqb t s) refl ∙ opened;
  numbers = omega (arith, length-set h.lines s line);
  arrives = λ _ t apart opened.
      IsPrefixOf-from_eq (inbox_at h.turn (line_at h.lines t)) (inbox_at h.turn (line_at (set h.lines s line) t)) (ap (inbox_at h.turn) (sym (get_or-set_other h.lines s t line no_line apart)));
  stays_ended = λ _ t over. ended_at t (eqb t s) refl ∙ over;
}
  where
    live_at : (t : ℕ) (b : Bool) → eqb t s ≡ b → (line_at (set h.lines s line) t).live ≡ (line_at h.lines t).live
    live_at t true e =
        subst (λ (k : ℕ). (line_at (set h.lines s line) k).live ≡ (line_at h.lines k).live) (sym (eqb-true t s e)) (ap (λ (l : LineState). l.live) (get_or-set_same h.lines s line no_line there) ∙ live)
    live_at t false e = ap (λ (l : LineState). l.live) (get_or-set_other h.lines s t line no_line (eqb-false t s e))

    ended_at : (t : ℕ) (b : Bool) → eqb t s ≡ b → (line_at (set h.lines s line) t).ended ≡ (line_at h.lines t).ended
    ended_at t true e =
        subst (λ (k : ℕ). (line_at (set h.lines s line) k).ended ≡ (line_at h.lines k).ended) (sym (eqb-true t s e)) (ap (λ (l : LineState). l.ended) (get_or-set_same h.lines s line no_line there) ∙ ended)
    ended_at t false e = ap (λ (l : LineState). l.ended) (get_or-set_other h.lines s t line no_line (eqb-false t s e))

inbox_given : (old mid : HallState) (s n : ℕ) (into : List ℕ) (events : List NetEvent) → IsPrefixOf (inbox_of old s) (inbox_of mid s) → s < length mid.lines → 0 < n → n ≤ length (front_at mid.turn (line_at mid.lines s))
    → take n into ≡ take n (front_at mid.turn (line_at mid.lines s)) → IsPrefixOf (inbox_of old s) (take n into ++ inbox_of (record mid { lines = set mid.lines s (give_line n (line_at mid.lines s)); events = events }) s)
unfolding inbox_of
inbox_given old mid s n into events p there some fits is =
    let line : LineState = line_at mid.lines s in
    let parts : inbox_at mid.turn line ≡ take n into ++ inbox_at mid.turn (give_line n line) =
    ready-given mid.turn n line.answers some fits ∙ ap (λ (b : List ℕ). b ++ inbox_at mid.turn (give_line n line)) (sym is) in
    let now : inbox_at mid.turn line ≡ take n into ++ inbox_at mid.turn (line_at (set mid.lines s (give_line n line)) s) =
    parts ∙ ap (λ (l : LineState). take n into ++ inbox_at mid.turn l) (sym (get_or-set_same mid.lines s (give_line n line) no_line there)) in
    subst (λ (b : List ℕ). IsPrefixOf (inbox_at old.turn (line_at old.lines s)) b) now p

none_there : (h : HallState) (s : ℕ) → length (front_at h.turn (line_at h.lines s)) ≡ 0 → inbox_of h s ≡ []
unfolding inbox_of
none_there h s none = ready-none h.turn (line_at h.lines s).answers none

over_there : (h : HallState) (s : ℕ) → (line_at h.lines s).ended ≡ true → HasEnded h.lines s
unfolding HasEnded
over_there h s over = over

goes_there : (h : HallState) (s : ℕ) → (line_at h.lines s).ended ≡ false → ¬ HasEnded h.lines s
unfolding HasEnded
goes_there h s goes_on over = let clash : false ≡ true = sym goes_on ∙ over in cc

inbox_noted : (h : HallState) (e : NetEvent) (faults s : ℕ) → inbox_of (record h { events = h.events ++ e ∷ []; faults = faults }) s ≡ inbox_of h s
unfolding inbox_of
inbox_noted h e faults s = refl

pub read_facts : (stream : ℕ) (into : List ℕ) (answer : Came) (old mid : HallState) → IsSound old → Plays old mid → IsLive old.lines stream → answer ≢ came.Memory → IsGiven stream into answer mid
    → ReadFacts stream into answer old (read_state stream into answer mid)
read_facts stream into (came.Got n) old mid sound plays live other given =
    let there : stream < length old.lines = IsLive-below old.lines stream live in
    let more = plays.keeps.numbers in
    let still : stream < length mid.lines = omega arith in
    let line : LineState = line_at mid.lines stream in record {
      sound = sound_came mid stream (take n into) (give_line n line) (plays.sound sound) still refl refl refl refl refl (all-given mid.turn n line.answers (take n into) given.0 given.1 given.2);
      cause = cause_none old.faults mid.faults plays.faults (λ is. let never : ⊥ = cc in never);
      keeps = KeepsBut-trans (Keeps-less stream plays.keeps) (keeps_given mid stream (give_line n line) (mid.events ++ event.Came stream (take n into) ∷ []) refl refl still);
      told = Adds-trans plays.adds (Adds-one mid.events (event.Came stream (take n into)) refl);
      inbox = inbox_given old mid stream n into (mid.events ++ event.Came stream (take n into) ∷ []) (plays.keeps.arrives tt stream live) still given.0 given.1 given.2;
    }
read_facts stream into came.NotYet old mid sound plays live other given =
    let there : stream < length old.lines = IsLive-below old.lines stream live in
    let more = plays.keeps.numbers in
    let none = none_there mid stream given.0 in record {
      sound = sound_still mid (event.Dry stream) mid.faults (plays.sound sound) refl (λ t at. at_stream stream (length mid.lines) t (omega arith) at);
      cause = cause_none old.faults mid.faults plays.faults (λ is. let never : ⊥ = cc in never);
      keeps = Keeps-less stream (Keeps-trans plays.keeps (still_noted mid (event.Dry stream) mid.faults));
      told = Adds-trans plays.adds (Adds-one mid.events (event.Dry stream) refl);
      inbox = (none_before (inbox_of old stream) (inbox_of mid stream) (plays.keeps.arrives tt stream live) none, inbox_noted mid (event.Dry stream) mid.faults stream ∙ none, goes_there mid stream given.1);
    }
read_facts stream into came.End old mid sound plays live other given =
    let there : stream < length old.lines = IsLive-below old.lines stream live in
    let more = plays.keeps.numbers in
    let none = none_there mid stream given.0 in record {
      sound = sound_still mid (event.Ended stream) mid.faults (plays.sound sound) refl (λ t at. at_stream stream (length mid.lines) t (omega arith) at);
      cause = cause_none old.faults mid.faults plays.faults (λ is. let never : ⊥ = cc in never);
      keeps = Keeps-less stream (Keeps-trans plays.keeps (still_noted mid (event.Ended stream) mid.faults));
      told = Adds-trans plays.adds (Adds-one mid.events (event.Ended stream) refl);
      inbox = (none_before (inbox_of old stream) (inbox_of mid stream) (plays.keeps.arrives tt stream live) none, inbox_noted mid (event.Ended stream) mid.faults stream ∙ none, over_there mid stream given.1);
    }
read_facts stream into came.Failed old mid sound plays live other given =
    let there : stream < length old.lines = IsLive-below old.lines stream live in
    let more = plays.keeps.numbers in record {
      sound = sound_still mid (event.Fault stream) (next_count mid.faults) (plays.sound sound) refl (λ t at. at_stream stream (length mid.lines) t (omega arith) at);
      cause = cause_one old.faults mid.faults plays.faults;
      keeps = Keeps-less stream (Keeps-trans plays.keeps (still_noted mid (event.Fault stream) (next_count mid.faults)));
      told = Adds-trans plays.adds (Adds-one mid.events (event.Fault stream) refl);
      inbox = subst (λ (b : List ℕ). IsPrefixOf (inbox_of old stream) b) (sym (inbox_noted mid (event.Fault stream) (next_count mid.faults) stream)) (plays.keeps.arrives tt stream live);
    }
read_facts stream into came.Memory old mid sound plays live other given = absurd (other refl)

-- ---- a close

pub record CloseFacts (stream : ℕ) (old new : HallState) : Type 0 where
  pub sound : IsSound new
  pub keeps : HallKeeps (all_but stream) old new
  pub told : Adds (close_events stream) old.events new.events

keeps_shut : (h : HallState) (s : ℕ) → s < length h.lines → HallKeeps (all_but s) h (close_state s h)
unfolding IsLive HasEnded inbox_of
keeps_shut h s there = record {
  opens = λ t apart opened. ap (λ (l : LineState). l.live) (get_or-set_other h.lines s t line no_line apart) ∙ opened;
  numbers = omega (arith, length-set h.lines s line);
  arrives = λ _ t apart opened.
      IsPrefixOf-from_eq (inbox_at h.turn (line_at h.lines t)) (inbox_at h.turn (line_at (set h.lines s line) t)) (ap (inbox_at h.turn) (sym (get_or-set_other h.lines s t line no_line apart)));
  stays_ended = λ _ t over. ended_at t (eqb t s) refl over;
}
  where
    line : LineState
    line = shut_line (line_at h.lines s)

    ended_at : (t : ℕ) (b : Bool) → eqb t s ≡ b → (line_at h.lines t).ended ≡ true → (line_at (set h.lines s line) t).ended ≡ true
    ended_at t true e over =
        subst (λ (k : ℕ). (line_at (set h.lines s (shut_line (line_at h.lines s))) k).ended ≡ true) (sym (eqb-true t s e)) (ap (λ (l : LineState). l.ended) (get_or-set_same h.lines s (shut_line (line_at h.lines s)) no_line there))
    ended_at t false e over = ap (λ (l : LineState). l.ended) (get_or-set_other h.lines s t (shut_line (line_at h.lines s)) no_line (eqb-false t s e)) ∙ over

pub close_facts : (stream : ℕ) (old : HallState) → IsSound old → IsLive old.lines stream → CloseFacts stream old (close_state stream old)
close_facts stream old sound live =
    let there : stream < length old.lines = IsLive-below old.lines stream live in
    let line : LineState = line_at old.lines stream in
    let e : NetEvent = event.Closed stream in
    let still : IsSound (record old { events = old.events ++ e ∷ [] }) = sound_still old e old.faults sound refl (λ t at. at_stream stream (length old.lines) t there at) in
    let mine : IsSoundLine (old.events ++ e ∷ []) stream line = still.lines stream there in
    record {
      sound = sound_line (record old { events = old.events ++ e ∷ [] }) stream (shut_line line) still
          (line_ended (old.events ++ e ∷ []) stream line (shut_line line) (bytes_of line.answers) mine refl refl refl refl (λ request is. (mine.late request is).1));
      keeps = keeps_shut old stream there;
      told = Adds-one old.events e refl;
    }

-- ---- the calls of a hall's core

-- A dial, by what the core answers.
pub record Dials (address : List ℕ) (answer : Dialed) (old new : HallState) : Type 0 where
  pub facts : DialFacts address answer old new
  pub answer_is : answer ≢ dialed.Memory → answer ≡ dial_answer address (begun old)
  pub state : answer ≢ dialed.Memory → new ≡ dial_state address (begun old)

dial_behind : (address : List ℕ) (old new : HallState) (o : Option ℕ) → IsSound old → Plays old (begun old) → o ≡ dial_stream address (begun old) → new ≡ dial_state address (begun old) → DialFacts address (answer_of o) old new
dial_behind address old new o sound plays is state =
    subst (λ (g : HallState). DialFacts address (answer_of o) old g) (sym state)
    (subst (λ (p : Option ℕ). DialFacts address (answer_of p) old (dial_state address (begun old))) (sym is) (dial_facts address old (begun old) (reached (begun old).peers address) sound plays))

answer_by : (o : Option ℕ) → answer_of o ≡ option_map_or dialed.Stream o dialed.Failed
answer_by (Some s) = refl
answer_by None = refl

pub dials : {E : Type 0} (address : List ℕ) (old new : HallState) (r : Result (Option ℕ) E) → IsSound old → IfOk r (λ o. o ≡ dial_stream address (begun old)) → OnOk r (new ≡ dial_state address (begun old))
    → OnOk r (Plays old (begun old)) → OnErr r (Plays old new) → Dials address (dialed_of r) old new
dials address old new (Ok (Some s)) sound is state plays err = record {
  facts = dial_behind address old new (Some s) sound plays is state;
  answer_is = λ _. answer_by (Some s) ∙ ap (λ (o : Option ℕ). option_map_or dialed.Stream o dialed.Failed) is;
  state = λ _. state;
}
dials address old new (Ok None) sound is state plays err = record {
  facts = dial_behind address old new None sound plays is state;
  answer_is = λ _. answer_by None ∙ ap (λ (o : Option ℕ). option_map_or dialed.Stream o dialed.Failed) is;
  state = λ _. state;
}
dials address old new (Err e) sound is state plays err = record {
  facts = dial_memory address old new sound err;
  answer_is = λ other. absurd (other refl);
  state = λ other. absurd (other refl);
}

-- A write.
pub record Writes (stream : ℕ) (bytes : List ℕ) (answer : Wrote) (old new : HallState) : Type 0 where
  pub facts : WriteFacts stream bytes answer old new
  pub answer_is : answer ≢ wrote.Memory → answer ≡ write_answer stream bytes (begun old)
  pub failed : answer ≡ wrote.Failed → new ≡ faulted (event.Fault stream) (begun old)
  pub served : answer ≡ wrote.Took (length bytes) → (new ≡ served stream (taken stream bytes (begun old))) ⊎ (new.unserved ≡ Some stream)

not_fails : (a b c : Bool) → true ≡ not (a || b) → b ≡ false
not_fails true b c is = let clash : true ≡ false = is in absurd (let never : ⊥ = cc in never)
not_fails false true c is = let clash : true ≡ false = is in absurd (let never : ⊥ = cc in never)
not_fails false false c is = refl

pub writes : {E : Type 0} (stream : ℕ) (bytes : List ℕ) (old new : HallState) (r : Result Bool E) → IsSound old → stream < length old.lines → IfOk r (λ took. took ≡ not (write_fails (begun old) stream))
    → OnOk r (Plays (write_state stream bytes (begun old)) new) → (r ≡ Ok false → new ≡ faulted (event.Fault stream) (begun old))
    → (r ≡ Ok true → (new ≡ served stream (taken stream bytes (begun old))) ⊎ (new.unserved ≡ Some stream)) → OnOk r (Plays old (begun old)) → OnErr r (Plays old new)
    → Writes stream bytes (wrote_of (length bytes) r) old new
writes stream bytes old new (Ok true) sound there is behind fails took plays err =
    let fine : write_fails (begun old) stream ≡ false = not_true (write_fails (begun old) stream) is in
    let state : write_state stream bytes (begun old) ≡ taken stream bytes (begun old) =
    ap (λ (b : Bool). cond b (faulted (event.Fault stream) (begun old)) (taken stream bytes (begun old))) fine in record {
      facts = write_took stream bytes old (begun old) new sound plays there (not_fails (is_dead (begun old) stream) (line_at (begun old).lines stream).ended false is)
          (subst (λ (g : HallState). Plays g new) state behind);
      answer_is = λ _. ap (λ (b : Bool). cond b wrote.Failed (wrote.Took (length bytes))) (sym fine);
      failed = λ same. absurd (let never : ⊥ = cc in never);
      served = λ _. took refl;
    }
  where
    not_true : (b : Bool) → true ≡ not b → b ≡ false
    not_true true e = let clash : true ≡ false = e in absurd (let never : ⊥ = cc in never)
    not_true false e = refl
writes stream bytes old new (Ok false) sound there is behind fails took plays err =
    let over : write_fails (begun old) stream ≡ true = not_false (write_fails (begun old) stream) is in record {
      facts = subst (λ (g : HallState). WriteFacts stream bytes wrote.Failed old g) (sym (fails refl)) (write_failed stream bytes old (begun old) sound plays there);
      answer_is = λ _. ap (λ (b : Bool). cond b wrote.Failed (wrote.Took (length bytes))) (sym over);
      failed = λ _. fails refl;
      served = λ same. absurd (let never : ⊥ = cc in never);
    }
  where
    not_false : (b : Bool) → false ≡ not b → b ≡ true
    not_false true e = refl
    not_false false e = let clash : false ≡ true = e in absurd (let never : ⊥ = cc in never)
writes stream bytes old new (Err e) sound there is behind fails took plays err = record {
  facts = write_memory stream bytes old new sound err;
  answer_is = λ other. absurd (other refl);
  failed = λ same. absurd (let never : ⊥ = cc in never);
  served = λ same. absurd (let never : ⊥ = cc in never);
}

-- A read.
pub record Reads (stream room : ℕ) (into : List ℕ) (answer : Came) (old new : HallState) : Type 0 where
  pub facts : ReadFacts stream into answer old new
  pub answer_is : answer ≢ came.Memory → answer ≡ read_answer stream room (begun old)
  pub state : answer ≢ came.Memory → new ≡ read_state stream into answer (begun old)

-- A read that has its memory does not answer that it wants any.
no_want : (a b c : Bool) (n : ℕ) → cond a came.Failed (cond b (came.Got n) (cond c came.End came.NotYet)) ≢ came.Memory
no_want true b c n is = cc
no_want false true c n is = cc
no_want false false true n is = cc
no_want false false false n is = cc

pub reads : {E : Type 0} (stream room : ℕ) (into : List ℕ) (old new : HallState) (r : Result Came E) → IsSound old → IsLive old.lines stream → IfOk r (λ answer. answer ≡ read_answer stream room (begun old))
    → IfOk r (λ answer. IsGiven stream into answer (begun old)) → IfOk r (λ answer. new ≡ read_state stream into answer (begun old)) → OnOk r (Plays old (begun old)) → OnErr r (Plays old new)
    → Reads stream room into (came_of r) old new
reads stream room into old new (Ok answer) sound live is given state plays err =
    let h : HallState = begun old in
    let other : answer ≢ came.Memory = λ same. no_want (is_dead h stream) (ltb 0 (read_size stream room h)) (line_at h.lines stream).ended (read_size stream room h) (sym is ∙ same) in record {
      facts = subst (λ (g : HallState). ReadFacts stream into answer old g) (sym state) (read_facts stream into answer old (begun old) sound plays live other given);
      answer_is = λ _. is;
      state = λ _. state;
    }
reads stream room into old new (Err e) sound live is given state plays err = record {
  facts = read_memory stream into old new sound err live;
  answer_is = λ other. absurd (other refl);
  state = λ other. absurd (other refl);
}

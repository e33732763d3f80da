use Rattle.std.proofs.Common.{sym, subst, take, drop}
use Rattle.std.proofs.lemmas.List.{take-append-drop}
use Rattle.entry_judge.specs.Groups.{place_behind}
use Rattle.entry_judge.specs.GroupLaws.{IsTrail-front}
use Rattle.sess_book.specs.Entries.{sessions_judge}
use Rattle.sess_book.specs.Laws.{IsHistory}
use Rattle.sess_book.specs.Sessions.{no_sessions}
use Rattle.sess_book.proofs.LawLemmas.{good-history, leases-free, stands-at}
use Rattle.sess_book.proofs.laws.one_holder.Goals as goal

pub returns : goal.returns
returns c ts l k place t at leases =
    let front = IsTrail-front sessions_judge no_sessions (take k ts) (drop k ts) (subst (λ xs. IsHistory xs) (sym (take-append-drop k ts)) l) in
    leases-free (place_behind sessions_judge no_sessions (take k ts)).state t.at t.what (good-history (take k ts) front) (stands-at ts l k t at) place leases

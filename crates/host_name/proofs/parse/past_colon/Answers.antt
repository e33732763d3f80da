use Rattle.std.proofs.Common.{rules}
use Rattle.std.proofs.lemmas.Str.Pattern.{strip_prefix_char}
use Rattle.host_name.proofs.GrammarLemmas.{begins_otherwise-unstripped}
use Rattle.host_name.proofs.parse.past_colon.Goals as goal

pub returns-clause-other : goal.returns-clause-other
returns-clause-other c none =
    begins_otherwise-unstripped _ _ (strip_prefix_char 58 _ _ c.strip_prefix.ensures.cases (search rules)) none

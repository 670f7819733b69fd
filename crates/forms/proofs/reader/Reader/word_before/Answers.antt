use Rattle.std.proofs.Common.{arith}
use Rattle.std.proofs.lemmas.List.Sums.{prefix_len-le-length}
use Rattle.forms.specs.Words.{in_word}
use Rattle.forms.proofs.reader.Reader.word_before.Goals as goal

pub overflow_add-self : goal.overflow_add-self
overflow_add-self c = let h = prefix_len-le-length in_word c.in_ok-rest.rest.now in grind arith

use Rattle.sam_joined.proofs.Linking.{good_line_carries, typed_is_in_the_text}
use Rattle.sam_joined.proofs.laws.typed_is_in_the_text.Goals as goal

pub returns-clause-carries : goal.returns-clause-carries
returns-clause-carries c = good_line_carries

pub returns-clause-typed : goal.returns-clause-typed
returns-clause-typed c = typed_is_in_the_text

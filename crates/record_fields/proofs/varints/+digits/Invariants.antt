-- The measure is how many bytes may follow.
use Rattle.record_fields.proofs.varints.+digits.Given as goal

abbrev pub decreases-digits : goal.decreases-digits
decreases-digits l = l.k

-- The measure is how many bytes may follow.
use Rattle.record_fields.proofs.varints.+put_digits.Given as goal

abbrev pub decreases-put_digits : goal.decreases-put_digits
decreases-put_digits l = l.k

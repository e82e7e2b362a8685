use Rattle.sect_warnings.proofs.Listing.{allows_listed}
use Rattle.sect_warnings.proofs.laws.comments_allow_what_they_list.Goals as goal

pub returns : goal.returns
returns c = allows_listed

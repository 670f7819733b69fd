use Rattle.std.proofs.Common.{◌≡◌, ◌^◌, ◌<◌, rules}
use Rattle.forms.specs.Parts.{activity_at}
use Rattle.forms.proofs.reader.Reader.activity.Goals as goal

pub returns : goal.returns
unfolding activity_at
returns g c work made =
    let low : c.in_ok-count.count < 2 ^ 32 = search rules in
    let is : c.counted-work.result ≡ work c.in_ok-count.count = made _ _ low c.counted-work.ensures in
    search rules

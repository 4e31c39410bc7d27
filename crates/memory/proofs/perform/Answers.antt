-- `memory::perform` meets its contract: arm by arm, from the contract of the call that it goes to.
use Rattle.std.proofs.Common.{◌≡◌, refl, rules}
use Rattle.reference.specs.Calls.{lent_word}
use Rattle.checks.specs.Checks.{result_map}
use Rattle.calls.specs.declared.Answer.TheVariants.{Cleared, Held, Searched, Next, Matched}
use Rattle.memory.proofs.Performing.{bare_performed, matches_performed}
use Rattle.memory.proofs.perform.Goals as goal

pub returns-in-Clear : goal.returns-in-Clear
returns-in-Clear c =
    let is : c.map.result ≡ result_map (λ done. Cleared) c.clear.result = search rules in
    rw is (bare_performed _ _ _ c.in-Clear.is _ _ _ _ _ tt c.clear.ensures)

pub returns-in-Write : goal.returns-in-Write
returns-in-Write c =
    let is : c.map-in-Write.result ≡ result_map Held c.write.result = search rules in
    rw is (bare_performed _ _ _ c.in-Write.is _ _ _ _ _ tt c.write.ensures)

pub returns-in-Erase : goal.returns-in-Erase
returns-in-Erase c =
    let is : c.map-in-Erase.result ≡ result_map Held c.erase.result = search rules in
    rw is (bare_performed _ _ _ c.in-Erase.is _ _ _ _ _ tt c.erase.ensures)

pub returns-in-Read : goal.returns-in-Read
returns-in-Read c =
    let is : c.map-in-Read.result ≡ result_map Held c.read.result = search rules in
    rw is (bare_performed _ _ _ c.in-Read.is _ _ _ _ _ tt c.read.ensures)

pub returns-in-FirstMatch : goal.returns-in-FirstMatch
returns-in-FirstMatch c =
    let is : c.map-in-FirstMatch.result ≡ result_map Searched c.first_match.result = search rules in
    rw is (bare_performed _ _ _ c.in-FirstMatch.is _ _ _ _ _ tt c.first_match.ensures)

pub returns-in-NextMatch : goal.returns-in-NextMatch
returns-in-NextMatch c =
    let is : c.map-in-NextMatch.result ≡ result_map Next c.next_match.result = search rules in
    rw is (bare_performed _ _ _ c.in-NextMatch.is _ _ _ _ _ tt c.next_match.ensures)

pub returns-in-AllMatch : goal.returns-in-AllMatch
unfolding lent_word
returns-in-AllMatch c =
    let is : c.map-in-AllMatch.result ≡ result_map Matched c.all_match.result = search rules in
    rw is (matches_performed _ _ _ c.in-AllMatch.is _ _ _ _ _ _ refl c.all_match.ensures)

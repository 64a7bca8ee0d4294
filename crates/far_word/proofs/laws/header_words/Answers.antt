use Rattle.std.proofs.Common.{refl}
use Rattle.far_word.proofs.HeaderLaws.{head_back, head_fits, head_found, header_found, header_fits, header_only, header_version}
use Rattle.far_word.proofs.laws.header_words.Goals as goal

pub returns-clause-back : goal.returns-clause-back
returns-clause-back c = λ h ok. (head_back h ok, head_fits h ok)

pub returns-clause-found : goal.returns-clause-found
returns-clause-found c = head_found

pub returns-clause-versions_back : goal.returns-clause-versions_back
returns-clause-versions_back c = λ v h ok. (header_only v _ h ok refl, header_fits v h.pointer h.len h.ds ok, header_version v _ h.pointer h.len h.ds ok refl)

pub returns-clause-versions_found : goal.returns-clause-versions_found
returns-clause-versions_found c = header_found

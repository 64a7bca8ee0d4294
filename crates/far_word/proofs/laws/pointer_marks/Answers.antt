use Rattle.far_word.proofs.MaskLaws.{without_owner_marks_word, IsPtr-without_owner_marks, views_rest}
use Rattle.far_word.proofs.PointerLaws.{with_mark_word, IsPtr-with_mark, with_mark_read, with_mark_fits, refused_mark, without_evac_word, IsPtr-without_evac}
use Rattle.far_word.proofs.laws.pointer_marks.Goals as goal

pub returns-clause-set : goal.returns-clause-set
returns-clause-set c = λ k v ok t. (with_mark_word k v ok t, IsPtr-with_mark k v ok t)

pub returns-clause-read : goal.returns-clause-read
returns-clause-read c = λ k w v fits e t. (with_mark_read k w v fits e t, with_mark_fits k w v fits e t)

pub returns-clause-refused : goal.returns-clause-refused
returns-clause-refused c = refused_mark

pub returns-clause-evac_cleared : goal.returns-clause-evac_cleared
returns-clause-evac_cleared c = λ v ok. (without_evac_word v ok, IsPtr-without_evac v ok)

pub returns-clause-owner_marks_cleared : goal.returns-clause-owner_marks_cleared
returns-clause-owner_marks_cleared c = λ v ok. (without_owner_marks_word v ok, IsPtr-without_owner_marks v ok)

pub returns-clause-views : goal.returns-clause-views
returns-clause-views c = views_rest

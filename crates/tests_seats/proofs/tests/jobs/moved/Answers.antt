use Rattle.std.proofs.Common.{◌≡◌, ap, sym, subst, ◌∙◌, arith, Some}
use Rattle.far_word.specs.declared.pointer.Place.{Place}
use Rattle.far_word.specs.declared.pointer.PtrWord.TheVariants.{Near}
use Rattle.far_word.specs.Pointer.{IsPtr, read_of}
use Rattle.far_word.proofs.PointerLaws.{read_back}
use Rattle.far_events.specs.events.Naming.{unmarked}
use Rattle.tests_seats.proofs.Offering.{not_false, same_place}
use Rattle.tests_seats.proofs.tests.jobs.moved.Goals as goal

pub returns : goal.returns
returns c =
    let x = c.in-Some-Near in
    let fits = subst IsPtr x.field-0-is x.ensures.found.0 in
    let here : x.place ≡ c.args.job.from = same_place x.place c.args.job.from c.if-ne.ensures in record {
      len = x.len;
      ds = x.ds;
      marks = x.marks;
      was = sym c.read.ensures.exact ∙ (x.is ∙ (ap Some x.field-0-is ∙ ap (λ (at : Place). Some (Near x.len x.ds at x.marks)) here));
      kept = c.if-marks.false;
      marked = not_false x.marks.evac c.if-not-marks.false;
      is = ap read_of c.pack.ensures ∙ read_back (Near x.len x.ds c.args.job.to (unmarked x.marks.dirty)) (fits.0, fits.1, fits.2, omega (arith, c.requires.to), omega (arith, c.size_of.ensures));
    }

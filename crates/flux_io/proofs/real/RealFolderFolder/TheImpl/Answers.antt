use Rattle.std.proofs.Common.{inl, refl}
use Rattle.flux_io.proofs.Answered.{on_ok_any, on_err_any, if_ok_any, err_gives}
use Rattle.flux_io.proofs.real.RealFolderFolder.TheImpl.Goals as goal

pub begin-tells : goal.begin-tells
begin-tells g c = record {
  same = refl;
  begun = on_ok_any c.result tt;
  refused = on_err_any c.result refl;
  later = c.ensures.later;
  failed = λ is. inl (err_gives c.result _ c.ensures.failed is);
}

pub read-tells : goal.read-tells
read-tells g c = record {
  same = refl;
  bound = c.ensures.bound;
  taken = if_ok_any c.result (λ n. refl);
  end = if_ok_any c.result (λ n. tt);
  refused = on_err_any c.result refl;
  later = c.ensures.later;
  failed = err_gives c.result _ c.ensures.failed;
}

-- What a vector instruction makes of $vc and $v.
pub mod Inner

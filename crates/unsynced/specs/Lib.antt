pub mod MayLeave

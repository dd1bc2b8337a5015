pub mod TheoremsProved
